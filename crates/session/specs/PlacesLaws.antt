-- Values that change places with those of a list: what each place has then, and that twice is nothing.
use Rattle.std.proofs.Common.{◌≡◌, ◌≢◌, ℕ, zero, suc, ◌-◌, ◌<◌, ◌≤◌, List, [], ◌∷◌, ◌++◌, length, get_or, set, refl, sym, ap, ap₂, ◌∙◌, arith, length-set, get_or-set_same, get_or-set_other}
use Rattle.std.specs.List.{All}
use Rattle.std.proofs.lemmas.List.Elements.{All-set}
use Rattle.std.proofs.lemmas.List.{set-append_left, get_or_append_left, set-set, set-get_or, set_comm}
use Rattle.session.specs.Places.{IsRising, AreWithin, exchanged, taken, PlacesFit}

module _ {X : Type 0} where
  -- none of the places is that of index k
  abbrev pub IsElsewhere : ℕ → List (ℕ × X) → Type 0
  IsElsewhere k places = All (λ p. k ≢ p.0 - 1) places

  pub elsewhere_head : (k : ℕ) (p : ℕ × X) (places : List (ℕ × X)) → IsElsewhere k (p ∷ places) → k ≢ p.0 - 1
  elsewhere_head k p places elsewhere = elsewhere 0 p (omega arith)

  pub elsewhere_tail : (k : ℕ) (p : ℕ × X) (places : List (ℕ × X)) → IsElsewhere k (p ∷ places) → IsElsewhere k places
  elsewhere_tail k p places elsewhere j d below = elsewhere (suc j) d (omega arith)

  -- the first of rising places is below all others
  pub rising_head : (p : ℕ × X) (places : List (ℕ × X)) → IsRising (p ∷ places) → 1 ≤ p.0 → IsElsewhere (p.0 - 1) places
  rising_head p places rising some k d below same = omega (arith, rising 0 (suc k) d (omega arith) (omega arith))

  pub rising_tail : (p : ℕ × X) (places : List (ℕ × X)) → IsRising (p ∷ places) → IsRising places
  rising_tail p places rising i j d before below = rising (suc i) (suc j) d (omega arith) (omega arith)

  pub within_head : (n : ℕ) (p : ℕ × X) (places : List (ℕ × X)) → AreWithin n (p ∷ places) → (1 ≤ p.0) × (p.0 ≤ n)
  within_head n p places within = within 0 p (omega arith)

  pub within_tail : (n : ℕ) (p : ℕ × X) (places : List (ℕ × X)) → AreWithin n (p ∷ places) → AreWithin n places
  within_tail n p places within k d below = within (suc k) d (omega arith)

  pub length-exchanged : (places : List (ℕ × X)) (xs : List X) → length (exchanged places xs) ≡ length xs
  length-exchanged [] xs = refl
  length-exchanged (p ∷ places) xs = length-exchanged places (set xs (p.0 - 1) p.1) ∙ length-set xs (p.0 - 1) p.1

  -- a place that is not named keeps its value
  pub get_or-exchanged_elsewhere : (places : List (ℕ × X)) (xs : List X) (k : ℕ) (d : X) → IsElsewhere k places → get_or (exchanged places xs) k d ≡ get_or xs k d
  get_or-exchanged_elsewhere [] xs k d elsewhere = refl
  get_or-exchanged_elsewhere (p ∷ places) xs k d elsewhere =
      get_or-exchanged_elsewhere places (set xs (p.0 - 1) p.1) k d (elsewhere_tail k p places elsewhere) ∙ get_or-set_other xs (p.0 - 1) k p.1 d (elsewhere_head k p places elsewhere)

  -- a write to a place that is not named may come before or after
  pub exchanged-set : (places : List (ℕ × X)) (xs : List X) (k : ℕ) (v : X) → IsElsewhere k places → exchanged places (set xs k v) ≡ set (exchanged places xs) k v
  exchanged-set [] xs k v elsewhere = refl
  exchanged-set (p ∷ places) xs k v elsewhere =
      ap (exchanged places) (set_comm xs k (p.0 - 1) v p.1 (elsewhere_head k p places elsewhere)) ∙ exchanged-set places (set xs (p.0 - 1) p.1) k v (elsewhere_tail k p places elsewhere)

  pub taken-set : (places : List (ℕ × X)) (xs : List X) (k : ℕ) (v : X) → IsElsewhere k places → taken places (set xs k v) ≡ taken places xs
  taken-set [] xs k v elsewhere = refl
  taken-set (p ∷ places) xs k v elsewhere =
      ap₂ ◌∷◌ (ap (λ (x : X). (p.0, x)) (get_or-set_other xs k (p.0 - 1) v p.1 (λ same. elsewhere_head k p places elsewhere (sym same)))) (taken-set places xs k v (elsewhere_tail k p places elsewhere))

  -- exchanging again gives back the list
  pub exchanged_again : (places : List (ℕ × X)) (xs : List X) (n : ℕ) → IsRising places → AreWithin n places → exchanged (taken places xs) (exchanged places xs) ≡ xs
  exchanged_again [] xs n rising within = refl
  exchanged_again (p ∷ places) xs n rising within =
      let elsewhere = rising_head p places rising (within_head n p places within).0 in
      let k : ℕ = p.0 - 1 in
      let old : X = get_or xs k p.1 in
      ap (exchanged (taken places xs)) (sym (exchanged-set places (set xs k p.1) k old elsewhere) ∙ ap (exchanged places) (set-set xs k p.1 old ∙ set-get_or xs k p.1))
      ∙ exchanged_again places xs n (rising_tail p places rising) (within_tail n p places within)

  -- and the places with their values
  pub taken_again : (places : List (ℕ × X)) (xs : List X) → IsRising places → AreWithin (length xs) places → taken (taken places xs) (exchanged places xs) ≡ places
  taken_again [] xs rising within = refl
  taken_again (p ∷ places) xs rising within =
      let (some, inside) = within_head (length xs) p places within in
      let elsewhere = rising_head p places rising some in
      let k : ℕ = p.0 - 1 in
      let ys : List X = set xs k p.1 in
      let same_length : length ys ≡ length xs = length-set xs k p.1 in
      ap₂ ◌∷◌
      (ap (λ (x : X). (p.0, x)) (get_or-exchanged_elsewhere places ys k _ elsewhere ∙ get_or-set_same xs k p.1 _ (omega arith)))
      (ap (λ qs. taken qs (exchanged places ys)) (sym (taken-set places xs k p.1 elsewhere))
      ∙ taken_again places ys (rising_tail p places rising) (λ i d below. rw same_length (within (suc i) d (omega arith))))

  pub length-taken : (places : List (ℕ × X)) (xs : List X) → length (taken places xs) ≡ length places
  length-taken [] xs = refl
  length-taken (p ∷ places) xs = ap suc (length-taken places xs)

  -- place i of what is taken
  pub get_or-taken : (places : List (ℕ × X)) (xs : List X) (i : ℕ) (d : ℕ × X) → i < length places → get_or (taken places xs) i d ≡ ((get_or places i d).0, get_or xs ((get_or places i d).0 - 1) (get_or places i d).1)
  get_or-taken [] xs i d below = absurd (omega arith)
  get_or-taken (p ∷ places) xs zero d below = refl
  get_or-taken (p ∷ places) xs (suc i) d below = get_or-taken places xs i d (omega arith)

  -- what is taken stands at the same places
  pub rising_taken : (places : List (ℕ × X)) (xs : List X) → IsRising places → IsRising (taken places xs)
  rising_taken places xs rising i j d before below =
      let within = length-taken places xs in
      rw (get_or-taken places xs i d (omega arith), get_or-taken places xs j d (omega arith)) (rising i j d before (omega arith))

  pub within_taken : (places : List (ℕ × X)) (xs : List X) (n : ℕ) → AreWithin n places → AreWithin n (taken places xs)
  within_taken places xs n within k d below =
      let same_length = length-taken places xs in
      rw (get_or-taken places xs k d (omega arith)) (within k d (omega arith))

  -- places of a shorter list are places of a longer one
  pub within_more : (places : List (ℕ × X)) (n m : ℕ) → n ≤ m → AreWithin n places → AreWithin m places
  within_more places n m more within k d below = let at = within k d below in (at.0, omega (arith, at.1))

  -- and has the values of the list
  pub values_taken : (P : X → Type 0) (places : List (ℕ × X)) (xs : List X) → AreWithin (length xs) places → All P xs → All (λ p. P p.1) (taken places xs)
  values_taken P places xs within all k d below =
      let same_length = length-taken places xs in
      let at = within k d (omega arith) in
      rw (get_or-taken places xs k d (omega arith)) (all ((get_or places k d).0 - 1) _ (omega (arith, at.0, at.1)))

  pub fit_taken : (P : X → Type 0) (n : ℕ) (places : List (ℕ × X)) (xs : List X) → n ≤ length xs → All P xs → PlacesFit P n places → PlacesFit P n (taken places xs)
  fit_taken P n places xs more all fit = record {
    rising = rising_taken places xs fit.rising;
    within = within_taken places xs n fit.within;
    values = values_taken P places xs (within_more places n (length xs) more fit.within) all;
  }

  pub All-exchanged : (P : X → Type 0) (places : List (ℕ × X)) (xs : List X) → All (λ p. P p.1) places → All P xs → All P (exchanged places xs)
  All-exchanged P [] xs values all = all
  All-exchanged P (p ∷ places) xs values all = All-exchanged P places (set xs (p.0 - 1) p.1) (λ k d below. values (suc k) d (omega arith)) (All-set P xs (p.0 - 1) p.1 (values 0 p (omega arith)) all)

  -- values behind the places stay behind them
  pub exchanged-append_left : (places : List (ℕ × X)) (xs ys : List X) → AreWithin (length xs) places → exchanged places (xs ++ ys) ≡ exchanged places xs ++ ys
  exchanged-append_left [] xs ys within = refl
  exchanged-append_left (p ∷ places) xs ys within =
      let (some, inside) = within_head (length xs) p places within in
      let same_length : length (set xs (p.0 - 1) p.1) ≡ length xs = length-set xs (p.0 - 1) p.1 in
      ap (exchanged places) (set-append_left xs ys (p.0 - 1) p.1 (omega arith))
      ∙ exchanged-append_left places (set xs (p.0 - 1) p.1) ys (λ k d below. rw same_length (within (suc k) d (omega arith)))

  pub taken-append_left : (places : List (ℕ × X)) (xs ys : List X) → AreWithin (length xs) places → taken places (xs ++ ys) ≡ taken places xs
  taken-append_left [] xs ys within = refl
  taken-append_left (p ∷ places) xs ys within =
      let (some, inside) = within_head (length xs) p places within in
      ap₂ ◌∷◌ (ap (λ (x : X). (p.0, x)) (get_or_append_left xs ys p.1 (p.0 - 1) (omega arith))) (taken-append_left places xs ys (within_tail (length xs) p places within))
