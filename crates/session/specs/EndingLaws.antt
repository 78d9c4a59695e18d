-- A list that takes values at its places and another end: that twice is nothing.
use Rattle.std.proofs.Common.{◌≡◌, ℕ, ◌+◌, ◌-◌, ◌≤◌, List, ◌++◌, length, take, drop, sym, ap, ap₂, ◌∙◌, arith, length-append, length-take-le, length-drop}
use Rattle.std.specs.List.{All}
use Rattle.std.proofs.lemmas.List.{take-append-drop, take_at, drop_at}
use Rattle.std.proofs.lemmas.List.Elements.{All-append, All-take, All-drop}
use Rattle.session.specs.Places.{IsRising, AreWithin, exchanged, taken, end_of, changed}
use Rattle.session.specs.PlacesLaws.{length-exchanged, exchanged_again, taken_again, exchanged-append_left, taken-append_left, within_taken, All-exchanged}

module _ {X : Type 0} (places : List (ℕ × X)) (n : ℕ) (come xs : List X) (fits : n ≤ length xs) (within : AreWithin (length xs - n) places) where
  abbrev front : List X
  front = take (length xs - n) xs

  split : front ++ end_of n xs ≡ xs
  split = take-append-drop (length xs - n) xs

  length-front : length front ≡ length xs - n
  length-front = length-take-le (length xs - n) xs (omega arith)

  within_front : AreWithin (length front) places
  within_front = rw length-front within

  pub length-exchanged_front : length (exchanged places front) ≡ length xs - n
  length-exchanged_front = length-exchanged places front ∙ length-front

  pub exchanged-front : exchanged places xs ≡ exchanged places front ++ end_of n xs
  exchanged-front = ap (exchanged places) (sym split) ∙ exchanged-append_left places front (end_of n xs) within_front

  -- the list is that of the front with the other end
  changed-front : changed places n come xs ≡ exchanged places front ++ come
  changed-front =
      ap (λ zs. zs ++ come)
      (ap (λ k. take (k - n) (exchanged places xs)) (length-exchanged places xs)
      ∙ ap (take (length xs - n)) exchanged-front
      ∙ take_at (exchanged places front) (end_of n xs) (length xs - n) length-exchanged_front)

  taken-front : taken places xs ≡ taken places front
  taken-front = ap (taken places) (sym split) ∙ taken-append_left places front (end_of n xs) within_front

  pub length-changed : length (changed places n come xs) ≡ length xs - n + length come
  length-changed = ap length changed-front ∙ length-append (exchanged places front) come ∙ ap (λ k. k + length come) length-exchanged_front

  -- what came is the new end
  pub end_of-changed : end_of (length come) (changed places n come xs) ≡ come
  end_of-changed =
      ap (λ zs. drop (length zs - length come) zs) changed-front
      ∙ drop_at (exchanged places front) come (length (exchanged places front ++ come) - length come) (omega (arith, length-append (exchanged places front) come))

  within_taken_front : AreWithin (length (exchanged places front)) (taken places front)
  within_taken_front = rw (length-exchanged places front) (within_taken places front (length front) within_front)

  -- the places with what stood there
  pub taken_changed : IsRising places → taken (taken places xs) (changed places n come xs) ≡ places
  taken_changed rising =
      ap₂ taken taken-front changed-front
      ∙ taken-append_left (taken places front) (exchanged places front) come within_taken_front
      ∙ taken_again places front rising within_front

  -- changing again gives back the list
  pub changed_again : IsRising places → changed (taken places xs) (length come) (end_of n xs) (changed places n come xs) ≡ xs
  changed_again rising =
      let again =
      ap₂ exchanged taken-front changed-front
      ∙ exchanged-append_left (taken places front) (exchanged places front) come within_taken_front
      ∙ ap (λ zs. zs ++ come) (exchanged_again places front (length front) rising within_front) in
      ap (λ zs. take (length zs - length come) zs ++ end_of n xs) again
      ∙ ap (λ zs. zs ++ end_of n xs) (take_at front come (length (front ++ come) - length come) (omega (arith, length-append front come)))
      ∙ split

module _ {X : Type 0} where
  pub length-end_of : (n : ℕ) (xs : List X) → n ≤ length xs → length (end_of n xs) ≡ n
  length-end_of n xs fits = length-drop (length xs - n) xs ∙ omega arith

  pub All-changed : (P : X → Type 0) (places : List (ℕ × X)) (n : ℕ) (come xs : List X) → All (λ p. P p.1) places → All P come → All P xs → All P (changed places n come xs)
  All-changed P places n come xs values comes all =
      All-append P (take (length (exchanged places xs) - n) (exchanged places xs)) come (All-take P _ (exchanged places xs) (All-exchanged P places xs values all)) comes

  pub All-end_of : (P : X → Type 0) (n : ℕ) (xs : List X) → All P xs → All P (end_of n xs)
  All-end_of P n xs all = All-drop P _ xs all
