-- What it means that checks of a line did not fail.
use Rattle.std.proofs.Common.{◌≡◌, ℕ, ◌≤◌, Bool, true, false, cond, if◌then◌else◌, ◌&&◌, leb, Option, Some, None, Result, Ok, Err, refl, ap, arith}
use Rattle.std.specs.Prelude.{unwrap_or}
use Rattle.std.proofs.lemmas.Bool.{leb-true, and_parts}
use Rattle.dimacs_lines.specs.declared.fault.LineFault.{LineFault}
use Rattle.dimacs_lines.specs.declared.fault.LineFault.TheVariants as of_line
use Rattle.dimacs_lines.specs.Fields.{Word, natural, natural_value}
use Rattle.dimacs_lines.specs.Checks.{◌>>=◌, demand, some_or, held_as, natural_in}

-- the value of a step that did not fail
pub bind_ok : {A B F : Type 0} (r : Result A F) (f : A → Result B F) (y : B) → (r >>= f) ≡ Ok y → (x : A) × (r ≡ Ok x) × (f x ≡ Ok y)
bind_ok (Ok x) f y e = (x, refl, e)
bind_ok (Err d) f y e = absurd cc

pub demand_ok : {F : Type 0} (met : Bool) (f : F) (x : Unit {0}) → demand met f ≡ Ok x → met ≡ true
demand_ok true f x e = refl
demand_ok false f x e = absurd cc

pub some_or_ok : {A F : Type 0} (o : Option A) (f : F) (x : A) → some_or o f ≡ Ok x → o ≡ Some x
some_or_ok None f x e = absurd cc
some_or_ok (Some y) f x e = let same : y ≡ x = cc in ap (λ z. Some z) same

pub ok_is : {A F : Type 0} (x y : A) → ◌≡◌ {A = Result A F} (Ok x) (Ok y) → x ≡ y
ok_is x y e = cc

-- a check of a line by itself
pub held_ok : {A F : Type 0} (as_fault : LineFault → F) (r : Result A LineFault) (x : A) → held_as as_fault r ≡ Ok x → r ≡ Ok x
held_ok as_fault (Ok y) x e = let same : y ≡ x = cc in ap (λ z. Ok z) same
held_ok as_fault (Err f) x e = absurd cc

-- the value of a field that was read
pub record NaturalIsRead (low high : ℕ) (word : Word) (n : ℕ) : Type 0 where
  pub value : natural_value word ≡ n
  pub above : low ≤ n
  pub below : n ≤ high

range_ok : (met : Bool) (f : LineFault) (n m : ℕ) → cond met (Ok n) (Err f) ≡ Ok m → (met ≡ true) × (n ≡ m)
range_ok true f n m e = (refl, cc)
range_ok false f n m e = absurd cc

natural_by : (low high : ℕ) (o : Option ℕ) (n : ℕ) → (some_or o of_line.NotANumber >>= λ n. if leb low n && leb n high then Ok n else Err of_line.OutOfRange) ≡ Ok n → (unwrap_or o 0 ≡ n) × (low ≤ n) × (n ≤ high)
natural_by low high None n e = absurd cc
natural_by low high (Some m) n e =
    let r = range_ok (leb low m && leb m high) of_line.OutOfRange m n e in
    let both = and_parts (leb low m) (leb m high) r.0 in
    let above = leb-true low m both.0 in let below = leb-true m high both.1 in
    (r.1, omega (arith, r.1), omega (arith, r.1))

pub natural_is_read : (low high : ℕ) (word : Word) (n : ℕ) → natural_in low high word ≡ Ok n → NaturalIsRead low high word n
natural_is_read low high word n e = let r = natural_by low high (natural word) n e in record { value = r.0; above = r.1; below = r.2 }
