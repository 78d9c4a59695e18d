-- The places at which two lists differ, found one after another.
use Rattle.std.proofs.Common.{◌≡◌, ◌≢◌, ℕ, ◌+◌, ◌-◌, ◌<◌, ◌≤◌, zero, suc, List, [], ◌∷◌, ◌++◌, length, get_or, set, take, drop, sym, subst, ap, ◌∙◌, arith, append_assoc, length-take-le}
use Rattle.std.proofs.lemmas.List.{take_more, drop_more, set_at, get_or_default}
use Rattle.std.proofs.lemmas.List.Elements.{All-push}
use Rattle.std.proofs.lemmas.List.Quantifiers.{all_pairs_push}
use Rattle.flow_solver.specs.Touched.{AgreeAt}
use Rattle.session.specs.Places.{AreFound}
use Rattle.session.proofs.Exchanges.{exchanged-push}

module _ {X : Type 0} (places : List (ℕ × X)) (xs ys : List X) (k : ℕ) (x y : X) (below : k < length xs) (fewer : length xs ≤ length ys) (found : AreFound places xs ys k) (is_x : x ≡ get_or xs k x) (is_y : y ≡ get_or ys k y) where
  new_at : y ≡ get_or ys k x
  new_at = is_y ∙ get_or_default ys k y x (omega arith)

  pub found_same : x ≡ y → AreFound places xs ys (k + 1)
  found_same same = record {
    exchange =
        found.exchange
        ∙ ap (λ zs. take k xs ++ zs) (drop_more ys k x (omega arith) ∙ ap (λ (y : X). y ∷ drop (k + 1) ys) (sym new_at ∙ sym same ∙ is_x))
        ∙ sym (append_assoc (take k xs) (get_or xs k x ∷ []) (drop (k + 1) ys))
        ∙ ap (λ zs. zs ++ drop (k + 1) ys) (sym (take_more xs k x below));
    rising = found.rising;
    within = λ i e inside. let at = found.within i e inside in (at.0, omega (arith, at.1));
    values = found.values;
    differ = found.differ;
  }

  -- place k + 1 is that of index k
  index : k + 1 - 1 ≡ k
  index = omega arith

  pub found_more : x ≢ y → AreFound (places ++ (k + 1, x) ∷ []) xs ys (k + 1)
  found_more differs = record {
    exchange =
        exchanged-push places ys (k + 1, x)
        ∙ ap (λ zs. set zs (k + 1 - 1) x) found.exchange
        ∙ ap (λ (n : ℕ). set (take k xs ++ drop k ys) n x) index
        ∙ ap (λ zs. set (take k xs ++ zs) k x) (drop_more ys k x (omega arith))
        ∙ set_at (take k xs) (get_or ys k x) (drop (k + 1) ys) x k (length-take-le k xs (omega arith))
        ∙ ap (λ (y : X). take k xs ++ y ∷ drop (k + 1) ys) is_x
        ∙ sym (append_assoc (take k xs) (get_or xs k x ∷ []) (drop (k + 1) ys))
        ∙ ap (λ zs. zs ++ drop (k + 1) ys) (sym (take_more xs k x below));
    rising = all_pairs_push (λ p q. p.0 < q.0) places (k + 1, x) found.rising (λ i e inside. omega (arith, (found.within i e inside).1));
    within = All-push (λ p. (1 ≤ p.0) × (p.0 ≤ k + 1)) places (k + 1, x) (λ i e inside. let at = found.within i e inside in (at.0, omega (arith, at.1))) (omega arith, omega arith);
    values = All-push (λ p. get_or xs (p.0 - 1) p.1 ≡ p.1) places (k + 1, x) found.values (ap (λ (n : ℕ). get_or xs n x) index ∙ sym is_x);
    differ = All-push (λ p. get_or ys (p.0 - 1) p.1 ≢ p.1) places (k + 1, x) found.differ (λ same. differs (sym same ∙ ap (λ (n : ℕ). get_or ys n x) index ∙ sym new_at));
  }

-- a value of a list that has one
some_of : {X : Type 0} (xs : List X) → 0 < length xs → X
some_of [] some = absurd (omega arith)
some_of (x ∷ xs) some = x

module _ {X : Type 0} (places : List (ℕ × X)) (xs ys : List X) (fewer : length xs ≤ length ys) where
  -- what is found among the first k is all that there is among the first m, where the lists agree in between
  pub found_to : (n k m : ℕ) → m ≡ n + k → m ≤ length xs → AreFound places xs ys k → ((j : ℕ) → k ≤ j → j < m → AgreeAt xs ys j) → AreFound places xs ys m
  found_to zero k m is inside found agree = subst (AreFound places xs ys) (omega arith) found
  found_to (suc n) k m is inside found agree =
      let below : k < length xs = omega arith in
      let d : X = some_of xs (omega arith) in
      let x : X = get_or xs k d in
      let y : X = get_or ys k d in
      let is_x : x ≡ get_or xs k x = get_or_default xs k d x below in
      let is_y : y ≡ get_or ys k y = get_or_default ys k d y (omega arith) in
      let more : AreFound places xs ys (k + 1) = found_same places xs ys k x y below fewer found is_x is_y (sym (agree k (omega arith) (omega arith) d)) in
      found_to n (k + 1) m (omega arith) inside more (λ j from to. agree j (omega arith) to)
