-- The walk over the ends at a node comes to each of them once.
use Rattle.std.proofs.Common.{◌≡◌, ◌≢◌, ℕ, zero, suc, ◌+◌, ◌*◌, ◌<◌, ◌≤◌, ◌==◌, ◌⊎◌, inl, inr, Bool, true, false, cond, if◌then◌else◌, List, [], ◌∷◌, length, Option, Some, refl, sym, ap, subst, ◌∙◌, arith, eqb-true, All, count_by}
use Rattle.std.proofs.lemmas.Bool.{eqb-false, ne_eqb}
use Rattle.std.proofs.lemmas.Bool.Decides.{eqb_tells}
use Rattle.std.proofs.lemmas.List.Elements.{All-cons, All-nil}
use Rattle.std.proofs.lemmas.List.Sums.{sum_by-cons}
use Rattle.dimacs_text.specs.declared.problem.ArcRow.{ArcRow}
use Rattle.network.specs.Ends.{end_node, last_end_below, IsEnd, Walks, WalksEnds}

eqb-same : (n : ℕ) → (n == n) ≡ true
eqb-same n = elim (eqb_tells n n) [ inl same ↦ same.0 | inr other ↦ absurd (other.1 refl) ]

abbrev same_end : ℕ → ℕ → Bool
same_end end e = e == end

count-yes : (end e : ℕ) (ends : List ℕ) → (e == end) ≡ true → count_by (same_end end) (e ∷ ends) ≡ suc (count_by (same_end end) ends)
count-yes end e ends is = sum_by-cons (λ x. cond (same_end end x) 1 0) e ends ∙ ap (λ (b : Bool). cond b 1 0 + count_by (same_end end) ends) is ∙ omega arith

count-no : (end e : ℕ) (ends : List ℕ) → (e == end) ≡ false → count_by (same_end end) (e ∷ ends) ≡ count_by (same_end end) ends
count-no end e ends is = sum_by-cons (λ x. cond (same_end end x) 1 0) e ends ∙ ap (λ (b : Bool). cond b 1 0 + count_by (same_end end) ends) is ∙ omega arith

module _ (arcs : List ArcRow) (v : ℕ) where
  abbrev next : ℕ → Option ℕ
  next end = last_end_below arcs (end_node arcs end) end

  -- the ends at the node below n, in falling order
  abbrev ends_below : ℕ → List ℕ
  ends_below zero = []
  ends_below (suc end) = if end_node arcs end == v then end ∷ ends_below end else ends_below end

  walk-step : (end : ℕ) (here : Bool) → (end_node arcs end == v) ≡ here → Walks next (last_end_below arcs v end) (ends_below end)
      → Walks next (if here then Some end else last_end_below arcs v end) (if here then end ∷ ends_below end else ends_below end)
  walk-step end true is walk = (refl, subst (λ (u : ℕ). Walks next (last_end_below arcs u end) (ends_below end)) (sym (eqb-true _ v is)) walk)
  walk-step end false is walk = walk

  walk_is : (n : ℕ) → Walks next (last_end_below arcs v n) (ends_below n)
  walk_is zero = refl
  walk_is (suc end) = walk-step end (end_node arcs end == v) refl (walk_is end)

  none-step : (k end : ℕ) (here : Bool) → k < end → count_by (same_end end) (ends_below k) ≡ 0 → count_by (same_end end) (if here then k ∷ ends_below k else ends_below k) ≡ 0
  none-step k end true below before = count-no end k (ends_below k) (ne_eqb k end (λ is. absurd (omega (arith, is)))) ∙ before
  none-step k end false below before = before

  none_past : (n end : ℕ) → n ≤ end → count_by (same_end end) (ends_below n) ≡ 0
  none_past zero end past = refl
  none_past (suc k) end past = none-step k end (end_node arcs k == v) (omega arith) (none_past k end (omega arith))

  once-step : (k end : ℕ) (here : Bool) → (end_node arcs k == v) ≡ here → end < suc k → end_node arcs end ≡ v → (end < k → count_by (same_end end) (ends_below k) ≡ 1)
      → ((k == end) ≡ true) × (k ≡ end) ⊎ ((k == end) ≡ false) × (k ≢ end) → count_by (same_end end) (if here then k ∷ ends_below k else ends_below k) ≡ 1
  once-step k end true is below at before (inl same) = count-yes end k (ends_below k) same.0 ∙ ap suc (none_past k end (omega (arith, same.1)))
  once-step k end true is below at before (inr other) = count-no end k (ends_below k) other.0 ∙ before (omega (arith, other.1))
  once-step k end false is below at before (inl same) = absurd (eqb-false (end_node arcs k) v is (ap (end_node arcs) same.1 ∙ at))
  once-step k end false is below at before (inr other) = before (omega (arith, other.1))

  once_is : (n end : ℕ) → end < n → end_node arcs end ≡ v → count_by (same_end end) (ends_below n) ≡ 1
  once_is zero end below at = absurd (omega arith)
  once_is (suc k) end below at = once-step k end (end_node arcs k == v) refl below at (λ b. once_is k end b at) (eqb_tells k end)

  only-step : (k : ℕ) (here : Bool) → (end_node arcs k == v) ≡ here → k < 2 * length arcs → All (IsEnd arcs v) (ends_below k) → All (IsEnd arcs v) (if here then k ∷ ends_below k else ends_below k)
  only-step k true is inside before = All-cons (IsEnd arcs v) k (ends_below k) (inside, eqb-true _ v is) before
  only-step k false is inside before = before

  only_are : (n : ℕ) → n ≤ 2 * length arcs → All (IsEnd arcs v) (ends_below n)
  only_are zero h = All-nil (IsEnd arcs v)
  only_are (suc k) h = only-step k (end_node arcs k == v) refl (omega arith) (only_are k (omega arith))

  pub walk_of_ends : (ends : List ℕ) × WalksEnds arcs v ends
  walk_of_ends = (
    ends_below (2 * length arcs),
    record {
      walk = walk_is (2 * length arcs);
      once = λ end is. once_is (2 * length arcs) end is.0 is.1;
      only = only_are (2 * length arcs) (omega arith);
    },
  )
