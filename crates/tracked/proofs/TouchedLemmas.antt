-- Tables that note where they are written: what is noted, and notes that are forgotten.
use Rattle.std.proofs.Common.{◌≡◌, ℕ, suc, ◌+◌, ◌<◌, ◌≤◌, List, [], ◌∷◌, length, refl, sym, subst, ◌∙◌, inl, inr, arith, Bool, true, false, cond, not}
use Rattle.std.specs.Prelude.{◌⊎◌, ◌≢◌, slice_index_or, slice_set}
use Rattle.std.proofs.lemmas.Bool.{cases_eq, cases_lt, true≢false, false_from_ne_true}
use Rattle.std.proofs.lemmas.List.{length-set, get_or-set_same, get_or-set_other, get_or_past}
use Rattle.std.proofs.lemmas.List.Sums.{sum_by-cons}
use Rattle.std.specs.List.{count_by}
use Rattle.tracked.specs.Marks.{in_set, IsListOf}

-- a place is noted, or it is not
pub noted_or_not : (noted : List Bool) (k : ℕ) → (in_set noted k ≡ true) ⊎ (in_set noted k ≡ false)
noted_or_not noted k = either (in_set noted k)
  where
    either : (b : Bool) → (b ≡ true) ⊎ (b ≡ false)
    either true = inl refl
    either false = inr refl

-- a place that is noted stays so when another is, or this one again
pub still_noted : (noted : List Bool) (place k : ℕ) → place < length noted → in_set noted k ≡ true → in_set (slice_set noted place true) k ≡ true
still_noted noted place k lt h = elim (cases_eq k place) [
  | inl same ↦ subst (λ (q : ℕ). in_set (slice_set noted place true) q ≡ true) (sym same) (get_or-set_same noted place true false lt)
  | inr other ↦ get_or-set_other noted place k true false other ∙ h
]

-- a noted place has a mark
pub noted_in : (noted : List Bool) (k : ℕ) → in_set noted k ≡ true → k < length noted
noted_in noted k h = elim (cases_lt k (length noted)) [
  | inl lt ↦ lt
  | inr past ↦ absurd (true≢false (sym h ∙ get_or_past noted k false past))
]

-- ---- notes that are forgotten

-- the first j of the places are not noted now, and nothing is noted that was not
pub record AreForgotten (noted : List Bool) (places : List ℕ) (j : ℕ) (noted' : List Bool) : Type 0 where
  pub same_size : length noted' ≡ length noted
  pub forgotten : (i d : ℕ) → i < j → i < length places → in_set noted' (slice_index_or places i d) ≡ false
  pub before : (k : ℕ) → in_set noted' k ≡ true → in_set noted k ≡ true

not_noted : (noted : List Bool) (place k : ℕ) → (k ≡ place) ⊎ (in_set noted k ≡ false) → in_set (slice_set noted place false) k ≡ false
not_noted noted place k out = elim (cases_eq k place) [
  | inr other ↦ get_or-set_other noted place k false false other ∙ elim out [ inl same ↦ absurd (other same) | inr h ↦ h ]
  | inl same ↦ elim (cases_lt place (length noted)) [
    | inl lt ↦ subst (λ (q : ℕ). in_set (slice_set noted place false) q ≡ false) (sym same) (get_or-set_same noted place false false lt)
    | inr past ↦ get_or_past (slice_set noted place false) k false (omega (arith, same, past, length-set noted place false))
  ]
]

pub AreForgotten-all : (noted : List Bool) (places : List ℕ) (j : ℕ) (noted' : List Bool) → IsListOf noted places → length places ≤ j → AreForgotten noted places j noted' → (k : ℕ) → in_set noted' k ≡ false
AreForgotten-all noted places j noted' list all are k = false_from_ne_true (in_set noted' k) still
  where
    still : in_set noted' k ≢ true
    still h =
        let (i, p, lt, is, same) = list.listed k (are.before k h) in
        true≢false (sym h ∙ subst (λ (q : ℕ). in_set noted' q ≡ false) (is ∙ same) (are.forgotten i p (omega (arith, lt, all)) lt))

all_out : (set : List Bool) → ((k : ℕ) → in_set set k ≡ false) → count_by not set ≡ length set
all_out [] none = refl
all_out (true ∷ set) none = absurd (true≢false (none 0))
all_out (false ∷ set) none = omega (arith, sum_by-cons (λ (b : Bool). cond (not b) 1 0) false set, all_out set (λ k. none (suc k)))

-- the list of no place
pub IsListOf-none : (noted : List Bool) → ((k : ℕ) → in_set noted k ≡ false) → IsListOf noted []
IsListOf-none noted none = record {
  inside = λ k d lt. absurd (omega (arith, lt));
  listed = λ k h. absurd (true≢false (sym h ∙ none k));
  apart = λ i j d before lt. absurd (omega (arith, lt));
  room = omega (arith, all_out noted none);
}
