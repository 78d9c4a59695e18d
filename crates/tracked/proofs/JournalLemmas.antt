-- Journals: what was written in turn, and what is brought back.
use Rattle.std.proofs.Common.{◌≡◌, ℕ, ◌+◌, ◌<◌, ℤ, pos, List, true, false, length, sym, subst, ◌∙◌, inl, inr, arith}
use Rattle.std.specs.Prelude.{All, Any, slice_index_or, slice_set}
use Rattle.std.proofs.lemmas.Bool.{true≢false}
use Rattle.std.proofs.lemmas.List.{get_or_default, get_or-set_other, length-set}
use Rattle.std.proofs.lemmas.List.Elements.{All-get_or}
use Rattle.residual_graph.specs.Residual.{number_at}
use Rattle.tracked.specs.NodeLists.{IsListed}
use Rattle.tracked.specs.Marks.{in_set}
use Rattle.tracked.specs.Journal.{IsSince}
use Rattle.tracked.specs.declared.journal.Journal.{Journal}
use Rattle.tracked.proofs.TouchedLemmas.{noted_or_not}
use Rattle.tracked.proofs.TrackedLemmas.{AreLeft, AreLeft-more, AreLeft-start}

-- the places of a journal name each one at which the table differs
pub since_left : (j : Journal) (xs ys : List ℤ) (places : List ℕ) → ((k : ℕ) → in_set j.written k ≡ true → Any (λ p. p ≡ k) places) → IsSince j xs ys → AreLeft places 0 ys xs
since_left j xs ys places listed is = AreLeft-start places ys xs (sym is.same_length) (λ k lt. elim (noted_or_not j.written k) [
  | inl noted ↦ inl (subst (λ (q : ℕ). Any (λ p. p ≡ q) places) (omega arith) (listed k noted))
  | inr out ↦ inr (λ d. sym (is.elsewhere k out d))
])

-- one more place is brought back
pub since_back : (j : Journal) (xs ys table : List ℤ) (places : List ℕ) (i : ℕ) (value : ℤ) → All (λ p. in_set j.written p ≡ true) places → i < length places → IsSince j xs ys → AreLeft places i table xs → slice_index_or places i 0 < length table
    → value ≡ number_at j.before.items (slice_index_or places i 0) → AreLeft places (i + 1) (slice_set table (slice_index_or places i 0) value) xs
since_back j xs ys table places i value noted lt is left below value_is =
    let p = slice_index_or places i 0 in
    let at : in_set j.written p ≡ true = All-get_or (λ q. in_set j.written q ≡ true) places i 0 lt noted in
    let same : value ≡ number_at xs p = value_is ∙ is.before p at in
    AreLeft-more places i table xs value left below (same ∙ get_or_default xs p (pos 0) value (omega (arith, below, left.same_length)))

-- a place that is named is on the list
pub named_at : (places : List ℕ) (k : ℕ) → Any (λ p. p ≡ k) places → IsListed places (length places) k
named_at places k there = record { place = there.0; in_list = omega (arith, there.2); is_there = get_or_default places there.0 0 there.1 there.2 ∙ there.3 ∙ there.4 }

-- a noted place is written
pub since_written : (j : Journal) (xs ys : List ℤ) (place : ℕ) (value : ℤ) → in_set j.written place ≡ true → IsSince j xs ys → IsSince j xs (slice_set ys place value)
since_written j xs ys place value noted is = record {
  same_length = length-set ys place value ∙ is.same_length;
  fits = is.fits;
  elsewhere = λ k out d. get_or-set_other ys place k value d (λ same. true≢false (sym noted ∙ subst (λ (q : ℕ). in_set j.written q ≡ false) same out)) ∙ is.elsewhere k out d;
  inside = is.inside;
  before = is.before;
}
