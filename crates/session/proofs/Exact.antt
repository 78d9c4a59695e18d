-- Places that name only what differs name exactly what differs between a list and the one that it changes to.
use Rattle.std.proofs.Common.{◌≡◌, ◌≢◌, ℕ, zero, suc, ◌+◌, ◌-◌, ◌<◌, ◌≤◌, ◌⊎◌, inl, inr, List, [], ◌∷◌, length, take, get_or, refl, sym, subst, ap, ◌∙◌, arith, length-take-le, get_or-take}
use Rattle.std.specs.List.{All, Any}
use Rattle.std.proofs.lemmas.List.{get_or_default, get_or_append_left}
use Rattle.std.proofs.lemmas.Bool.{cases_eq}
use Rattle.session.specs.Places.{IsRising, AreWithin, exchanged, taken, DifferAt, IsDifference, AllDiffer, changed}
use Rattle.session.specs.PlacesLaws.{IsElsewhere, length-exchanged, get_or-exchanged_elsewhere, get_or-taken, length-taken, within_more}
use Rattle.session.specs.EndingLaws.{length-changed, taken_changed}
use Rattle.session.proofs.Endings.{ended_none}

module _ {X : Type 0} where
  -- a place is named, or none of the places is it
  named_or_not : (places : List (ℕ × X)) (k : ℕ) → Any (λ p. p.0 ≡ k) places ⊎ All (λ p. k ≢ p.0) places
  named_or_not [] k = inr (λ i d below. absurd (omega arith))
  named_or_not (p ∷ places) k = elim (cases_eq p.0 k) [
    | inl same ↦ inl (0, p, omega arith, refl, same)
    | inr other ↦ elim (named_or_not places k) [
      | inl (i, q, inside, is_q, same) ↦ inl (suc i, q, omega arith, is_q, same)
      | inr elsewhere ↦ inr (elsewhere_cons places p k (λ same. other (sym same)) elsewhere)
    ]
  ]
    where
      elsewhere_cons : (places : List (ℕ × X)) (p : ℕ × X) (k : ℕ) → k ≢ p.0 → All (λ p. k ≢ p.0) places → All (λ p. k ≢ p.0) (p ∷ places)
      elsewhere_cons places p k other elsewhere zero d below = other
      elsewhere_cons places p k other elsewhere (suc i) d below = elsewhere i d (omega arith)

  -- a value of a list that has one
  some_of : (xs : List X) → 0 < length xs → X
  some_of [] some = absurd (omega arith)
  some_of (x ∷ xs) some = x

  -- where no place is named the lists agree, but for their ends
  agree : (places : List (ℕ × X)) (n : ℕ) (come ys : List X) (k : ℕ) (d : X) → k < length ys - n → IsElsewhere k places → get_or (changed places n come ys) k d ≡ get_or ys k d
  agree places n come ys k d below elsewhere =
      let same_length = length-exchanged places ys in
      let shorter = length-take-le (length (exchanged places ys) - n) (exchanged places ys) (omega arith) in
      get_or_append_left (take (length (exchanged places ys) - n) (exchanged places ys)) come d k (omega arith)
      ∙ get_or-take (length (exchanged places ys) - n) (exchanged places ys) k d (omega arith)
      ∙ get_or-exchanged_elsewhere places ys k d elsewhere

module _ {X : Type 0} (places : List (ℕ × X)) (n : ℕ) (come ys : List X) (fits : n ≤ length ys) (rising : IsRising places) (within : AreWithin (length ys - n) places) where
  abbrev after : List X
  after = changed places n come ys

  length-after : length after ≡ length ys - n + length come
  length-after = length-changed places n come ys fits within

  within_ys : AreWithin (length ys) places
  within_ys = within_more places (length ys - n) (length ys) (omega arith) within

  within_after : AreWithin (length after) places
  within_after = within_more places (length ys - n) (length after) (omega (arith, length-after)) within

  -- what the places put into the list
  value_put : (i : ℕ) (d : ℕ × X) (e : X) → i < length places → get_or after ((get_or places i d).0 - 1) e ≡ (get_or places i d).1
  value_put i d e below =
      let p : ℕ × X = get_or places i d in
      let y : X = get_or ys (p.0 - 1) p.1 in
      let as_many = length-taken places ys in
      let once = get_or-taken places ys i d below in
      let twice = get_or-taken (taken places ys) after i d (omega arith) in
      let back = ap (λ qs. get_or qs i d) (taken_changed places n come ys fits within rising) in
      let inside = within_after i d below in
      get_or_default after (p.0 - 1) e y (omega (arith, inside.0, inside.1))
      ∙ ap (λ (q : ℕ × X). q.1) (sym (rw once at twice) ∙ back)

  -- where values come or go at the end, a place of both lists is before those that go
  both : (n ≡ 0) ⊎ (come ≡ []) → (k : ℕ) → 1 ≤ k → k ≤ length after → k ≤ length ys → k - 1 < length ys - n
  both (inl none) k some inside inside_ys = omega (arith, some, inside_ys, none)
  both (inr none) k some inside inside_ys = omega (arith, some, inside, length-after, ap length none)

  module _ (differ : AllDiffer places ys) where
    named_differ : (k : ℕ) → Any (λ p. p.0 ≡ k) places → DifferAt after ys k
    named_differ k (i, p, below, is_p, at) =
        let inside = within_after i p below in
        let inside_ys = within_ys i p below in
        let first : (get_or places i p).0 ≡ k = ap (λ (q : ℕ × X). q.0) is_p ∙ at in
        let second : (get_or places i p).1 ≡ p.1 = ap (λ (q : ℕ × X). q.1) is_p in (
          rw first at inside.0,
          rw first at inside.1,
          rw first at inside_ys.1,
          λ d same.
              let q : ℕ × X = get_or places i p in
              let below_ys : q.0 - 1 < length ys = omega (arith, inside_ys.0, inside_ys.1) in
              let same_q : get_or after (q.0 - 1) d ≡ get_or ys (q.0 - 1) d = rw first same in
              differ i p below (get_or_default ys (q.0 - 1) q.1 d below_ys ∙ sym same_q ∙ value_put i p d below),
        )

    differ_named : (n ≡ 0) ⊎ (come ≡ []) → (k : ℕ) → DifferAt after ys k → Any (λ p. p.0 ≡ k) places
    differ_named one_end k (some, inside, inside_ys, differs) = elim (named_or_not places k) [
      | inl named ↦ named
      | inr other ↦
          let d : X = some_of ys (omega arith) in
          absurd (differs d (agree places n come ys (k - 1) d (both one_end k some inside inside_ys) (λ i e below same. other i e below (omega (arith, same, (within i e below).0)))))
    ]

    -- the places are exactly those of both lists at which they differ
    pub exact_difference : (n ≡ 0) ⊎ (come ≡ []) → IsDifference places after ys
    exact_difference one_end = record {
      rising = rising;
      named = λ k. (named_differ k, differ_named one_end k);
      values = λ i d below. value_put i d (get_or places i d).1 below;
    }

    -- and what is taken names only what differs from the changed list
    pub differ_taken : AllDiffer (taken places ys) after
    differ_taken i d below =
        let as_many = length-taken places ys in
        let inside : i < length places = omega arith in
        let p : ℕ × X = get_or places i d in
        rw (get_or-taken places ys i d inside) (λ same. differ i d inside (sym same ∙ value_put i d (get_or ys (p.0 - 1) p.1) inside))

-- the same of a list whose end stays
module _ {X : Type 0} (places : List (ℕ × X)) (ys : List X) (rising : IsRising places) (within : AreWithin (length ys) places) (differ : AllDiffer places ys) where
  pub exact_exchange : IsDifference places (exchanged places ys) ys
  exact_exchange = subst (λ zs. IsDifference places zs ys) (ended_none (exchanged places ys)) (exact_difference places 0 [] ys (omega arith) rising (within_more places (length ys) (length ys - 0) (omega arith) within) differ (inl refl))

  pub differ_exchanged : AllDiffer (taken places ys) (exchanged places ys)
  differ_exchanged = subst (AllDiffer (taken places ys)) (ended_none (exchanged places ys)) (differ_taken places 0 [] ys (omega arith) rising (within_more places (length ys) (length ys - 0) (omega arith) within) differ)
