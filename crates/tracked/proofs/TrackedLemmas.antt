-- Tables beside what was kept of them: what was written in turn, and what the noted places name.
use Rattle.std.proofs.Common.{◌≡◌, ◌≢◌, ℕ, ◌+◌, ◌<◌, ◌≤◌, Bool, List, length, take, drop, refl, sym, ap, subst, ◌∙◌, inl, inr, arith, true}
use Rattle.std.specs.Prelude.{◌⊎◌, Any, slice_set, slice_index_or}
use Rattle.std.proofs.lemmas.Bool.{cases_eq}
use Rattle.std.proofs.lemmas.Grind.{get_or_after_one}
use Rattle.std.proofs.lemmas.List.{length-set, get_or-set_same, get_or-set_other, get_or-take, get_or_read, same_lists, length-take-le, length-drop}
use Rattle.tracked.specs.Marks.{in_set}
use Rattle.tracked.specs.Touched.{NameChanges, AgreeAt}
use Rattle.tracked.specs.Tracked.{IsTracked, IsWritten, TrackedView}
use Rattle.tracked.proofs.TouchedLemmas.{noted_or_not}

-- ---- places that a walk has still before it

-- a place is among those from the j-th on
pub record IsListedFrom (places : List ℕ) (j k : ℕ) : Type 0 where
  pub place : ℕ
  pub not_before : j ≤ place
  pub in_list : place < length places
  pub is_there : k ≡ slice_index_or places place 0

listed_at : (places : List ℕ) (i p k : ℕ) → slice_index_or places i p ≡ p → p ≡ k → i < length places → k ≡ slice_index_or places i 0
listed_at places i p k is same lt = sym same ∙ get_or_read places i p lt (sym is) 0

IsListedFrom-later : (places : List ℕ) (j k : ℕ) → IsListedFrom places j k → k ≢ slice_index_or places j 0 → IsListedFrom places (j + 1) k
IsListedFrom-later places j k at other = elim (cases_eq at.place j) [
  | inl same ↦ absurd (other (at.is_there ∙ ap (λ (q : ℕ). slice_index_or places q 0) same))
  | inr later ↦ record { place = at.place; not_before = omega (arith, at.not_before, later); in_list = at.in_list; is_there = at.is_there }
]

-- ---- what was written in turn, and what is kept

module _ {T : Type 0} where
  pub IsWritten-same : (l : TrackedView T) → IsWritten l l
  IsWritten-same l = record { kept = refl; whole = refl; same_length = refl; same_room = refl }

  pub IsWritten-trans : (l m n : TrackedView T) → IsWritten l m → IsWritten m n → IsWritten l n
  IsWritten-trans l m n first then = record {
    kept = then.kept ∙ first.kept;
    whole = then.whole ∙ first.whole;
    same_length = then.same_length ∙ first.same_length;
    same_room = then.same_room ∙ first.same_room;
  }

  module _ (xs whole : List T) (size : ℕ) (marks : List Bool) (entries_room whole_room : ℕ) (tracked : IsTracked xs whole size marks entries_room whole_room) where
    module _ (places : List ℕ) (listed : (k : ℕ) → in_set marks k ≡ true → Any (λ p. p ≡ k) places) where
      -- places that name all that is noted name each place at which the entries differ from the snapshot
      pub kept_named : NameChanges 0 places (take size whole) xs
      kept_named k lt = elim (noted_or_not marks k) [
        | inl noted ↦ inl (subst (λ (q : ℕ). Any (λ p. p ≡ q) places) (omega arith) (listed k noted))
        | inr out ↦ inr (λ d. tracked.elsewhere k out d ∙ sym (get_or-take size whole k d (omega (arith, lt, length-take-le size whole (omega (arith, tracked.size_in, tracked.same_length))))))
      ]

      -- the same with what was added since, and the other way round
      pub kept_differs : NameChanges 0 places whole xs
      kept_differs k lt = elim (noted_or_not marks k) [
        | inl noted ↦ inl (subst (λ (q : ℕ). Any (λ p. p ≡ q) places) (omega arith) (listed k noted))
        | inr out ↦ inr (λ d. tracked.elsewhere k out d)
      ]

      pub entries_differ : NameChanges 0 places xs whole
      entries_differ k lt = elim (noted_or_not marks k) [
        | inl noted ↦ inl (subst (λ (q : ℕ). Any (λ p. p ≡ q) places) (omega arith) (listed k noted))
        | inr out ↦ inr (λ d. sym (tracked.elsewhere k out d))
      ]

  -- the places from the j-th on name each one at which the lists, of one length, differ
  pub record AreLeft (places : List ℕ) (j : ℕ) (xs ys : List T) : Type 0 where
    pub same_length : length xs ≡ length ys
    pub named : (k : ℕ) → k < length xs → IsListedFrom places j k ⊎ AgreeAt ys xs k

  pub AreLeft-start : (places : List ℕ) (xs ys : List T) → length ys ≡ length xs → NameChanges 0 places xs ys → AreLeft places 0 xs ys
  AreLeft-start places xs ys sized named = record {
    same_length = sym sized;
    named = λ k lt. elim (named k lt) [
      | inl any ↦ inl (record { place = any.0; not_before = omega arith; in_list = any.2; is_there = listed_at places any.0 any.1 k any.3 (omega (arith, any.4)) any.2 })
      | inr agree ↦ inr (λ d. sym (agree d))
    ];
  }

  -- the j-th of them is past the end
  pub AreLeft-past : (places : List ℕ) (j : ℕ) (xs ys : List T) → AreLeft places j xs ys → length xs ≤ slice_index_or places j 0 → AreLeft places (j + 1) xs ys
  AreLeft-past places j xs ys are past = record {
    same_length = are.same_length;
    named = λ k lt. elim (are.named k lt) [
      | inl at ↦ inl (IsListedFrom-later places j k at (λ same. omega (arith, same, lt, past)))
      | inr agree ↦ inr agree
    ];
  }

  -- the entry there is copied
  pub AreLeft-more : (places : List ℕ) (j : ℕ) (xs ys : List T) (value : T) → AreLeft places j xs ys → slice_index_or places j 0 < length xs → value ≡ slice_index_or ys (slice_index_or places j 0) value → AreLeft places (j + 1) (slice_set xs (slice_index_or places j 0) value) ys
  AreLeft-more places j xs ys value are lt is =
      let p = slice_index_or places j 0 in
      record {
        same_length = length-set xs p value ∙ are.same_length;
        named = λ k k_in. elim (cases_eq k p) [
          | inl same ↦ inr (λ d. subst (λ (q : ℕ). slice_index_or (slice_set xs p value) q d ≡ slice_index_or ys q d) (sym same) (get_or-set_same xs p value d lt ∙ get_or_read ys p value (omega (arith, lt, are.same_length)) is d))
          | inr other ↦ elim (are.named k (omega (arith, k_in, length-set xs p value))) [
            | inl at ↦ inl (IsListedFrom-later places j k at other)
            | inr agree ↦ inr (λ d. get_or-set_other xs p k value d other ∙ agree d)
          ]
        ];
      }

  pub AreLeft-all : (places : List ℕ) (j : ℕ) (xs ys : List T) → AreLeft places j xs ys → length places ≤ j → xs ≡ ys
  AreLeft-all places j xs ys are all = same_lists xs ys are.same_length (λ k d lt. elim (are.named k lt) [
    | inl at ↦ absurd (omega (arith, at.not_before, at.in_list, all))
    | inr agree ↦ agree d
  ])

  -- the same where entry 0 is left out
  pub named_after_first : (places : List ℕ) (xs ys : List T) → NameChanges 0 places xs ys → NameChanges 1 places (drop 1 xs) (drop 1 ys)
  named_after_first places xs ys named = λ k lt. elim (named (k + 1) (omega (arith, lt, length-drop 1 xs))) [
    | inl listed ↦ inl (subst (λ (q : ℕ). Any (λ p. p ≡ q) places) (omega arith) listed)
    | inr agree ↦ inr (λ d. get_or_after_one ys k d ∙ (subst (λ (q : ℕ). slice_index_or ys q d ≡ slice_index_or xs q d) (omega arith) (agree d)) ∙ sym (get_or_after_one xs k d))
  ]
