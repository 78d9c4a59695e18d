-- Lists whose values are related place by place.
use Rattle.std.proofs.Common.{◌≡◌, List, [], ◌∷◌, ◌++◌, length, refl, arith}
use Rattle.std.specs.List.{AllZip}

module _ {X : Type 0} (R : X → X → Type 0) where
  pub joined : (xs ys us vs : List X) → AllZip R xs ys → AllZip R us vs → AllZip R (xs ++ us) (ys ++ vs)
  joined [] [] us vs a b = b
  joined [] (y ∷ ys) us vs a b = absurd a
  joined (x ∷ xs) [] us vs a b = absurd a
  joined (x ∷ xs) (y ∷ ys) us vs a b = (a.0, joined xs ys us vs a.1 b)

  pub parted : (xs ys us vs : List X) → length ys ≡ length xs → AllZip R (xs ++ us) (ys ++ vs) → AllZip R xs ys × AllZip R us vs
  parted [] [] us vs len all = (tt, all)
  parted [] (y ∷ ys) us vs len all = absurd (omega (arith, len))
  parted (x ∷ xs) [] us vs len all = absurd (omega (arith, len))
  parted (x ∷ xs) (y ∷ ys) us vs len all = let rest = parted xs ys us vs (omega (arith, len)) all.1 in ((all.0, rest.0), rest.1)

  pub as_long : (xs ys : List X) → AllZip R xs ys → length ys ≡ length xs
  as_long [] [] all = refl
  as_long [] (y ∷ ys) all = absurd all
  as_long (x ∷ xs) [] all = absurd all
  as_long (x ∷ xs) (y ∷ ys) all = omega (arith, as_long xs ys all.1)
