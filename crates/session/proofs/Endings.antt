-- More of a list that takes another end: with none, with one of the two, and behind other values.
use Rattle.std.proofs.Common.{◌≡◌, ℕ, suc, ◌+◌, ◌-◌, ◌≤◌, List, [], ◌∷◌, ◌++◌, length, take, drop, ap, ◌∙◌, arith, append_assoc, append-nil, length-append}
use Rattle.std.proofs.lemmas.List.{take_all, drop_at}
use Rattle.session.specs.Places.{AreWithin, exchanged, ended, end_of}
use Rattle.session.specs.PlacesLaws.{length-exchanged}
use Rattle.session.specs.EndingLaws.{exchanged-front, length-exchanged_front}

module _ {X : Type 0} where
  -- none of the places is of the last n values
  pub end_of-exchanged : (places : List (ℕ × X)) (n : ℕ) (xs : List X) → n ≤ length xs → AreWithin (length xs - n) places → end_of n (exchanged places xs) ≡ end_of n xs
  end_of-exchanged places n xs fits within =
      ap (λ k. drop (k - n) (exchanged places xs)) (length-exchanged places xs)
      ∙ ap (drop (length xs - n)) (exchanged-front places n [] xs fits within)
      ∙ drop_at (exchanged places (take (length xs - n) xs)) (end_of n xs) (length xs - n) (length-exchanged_front places n [] xs fits within)

  -- with the end that the list has it is as it was
  pub ended_none : (xs : List X) → ended 0 [] xs ≡ xs
  ended_none xs = append-nil (take (length xs - 0) xs) ∙ take_all (length xs - 0) xs (omega arith)

  take_behind : (before xs : List X) (n : ℕ) → take (length before + n) (before ++ xs) ≡ before ++ take n xs
  take_behind [] xs n = ap (λ (k : ℕ). take k xs) {x = length {A = X} [] + n} {y = n} (omega arith)
  take_behind (x ∷ before) xs n =
      ap (λ (k : ℕ). take k (x ∷ before ++ xs)) {x = length (x ∷ before) + n} {y = suc (length before + n)} (omega arith) ∙ ap (λ (ys : List X). x ∷ ys) (take_behind before xs n)

  -- values in front stay in front
  pub ended_behind : (before : List X) (n : ℕ) (come xs : List X) → n ≤ length xs → ended n come (before ++ xs) ≡ before ++ ended n come xs
  ended_behind before n come xs fits =
      ap (λ (k : ℕ). take k (before ++ xs) ++ come) {x = length (before ++ xs) - n} {y = length before + (length xs - n)} (omega (arith, length-append before xs, fits))
      ∙ ap (λ zs. zs ++ come) (take_behind before xs (length xs - n))
      ∙ append_assoc before (take (length xs - n) xs) come
