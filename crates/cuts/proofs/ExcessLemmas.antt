-- Lists of the nodes out of balance.
use Rattle.std.proofs.Common.{◌≡◌, ◌∙◌, ◌<◌, ◌≤◌, ◌+◌, ◌*◌, ℕ, zero, suc, ℤ, negsuc, neg_ℤ, ◌≤ℤ◌, List, Bool, true, false, pos, length, refl, sym, ap, subst, arith, inl, inr, true≢false, replicate}
use Rattle.std.specs.Prelude.{◌≢◌, All, Any, slice_index_or, slice_set}
use Rattle.std.specs.List.{AllPairs, sum_by}
use Rattle.std.proofs.lemmas.Bool.{cases_eq}
use Rattle.std.proofs.lemmas.Int.{ints}
use Rattle.std.proofs.lemmas.List.{get_or_default, get_or-replicate, get_or-set_same, get_or-set_other, length-replicate}
use Rattle.std.proofs.lemmas.List.Folds.{sum_by-replicate}
use Rattle.std.proofs.lemmas.List.Sums.{sum_by-le, sum_by-set}
use Rattle.residual_graph.specs.declared.side.Side.{Side}
use Rattle.residual_graph.specs.declared.side.Side.TheVariants.{Ahead, Behind}
use Rattle.residual_graph.specs.Limits.{entry_limit}
use Rattle.residual_graph.specs.Residual.{number_at}
use Rattle.residual_graph.specs.Side.{IsRoot}
use Rattle.tracked.specs.NodeLists.{IsListed, node_at}
use Rattle.tracked.specs.Marks.{in_set}
use Rattle.tracked.specs.Journal.{IsSince}
use Rattle.tracked.specs.declared.journal.Journal.{Journal}
use Rattle.tracked.proofs.JournalLemmas.{named_at}
use Rattle.tracked.proofs.TouchedLemmas.{noted_or_not, still_noted}
use Rattle.tracked.proofs.TrackedLemmas.{AreLeft, AreLeft-all, AreLeft-more, AreLeft-start}
use Rattle.cuts.specs.Cut.{amount, amount_of}
use Rattle.cuts.specs.Excess.{AreUnbalancedListed, IsBalancedOrListed}
use Rattle.flow_changes.specs.Limits.{excess_limit, left_limit}
use Rattle.flow_changes.specs.Push.{AreSmall, lack, left, part_above_0}

-- a root is out of balance
root_unbalanced : (side : Side) (z : ℤ) → IsRoot side z → z ≡ pos 0 → ⊥
root_unbalanced Ahead z root balanced = absurd (omega (arith, ints, root, balanced))
root_unbalanced Behind z root balanced = absurd (omega (arith, ints, root, balanced))

-- the roots of a side are among the nodes out of balance
pub root_listed : (side : Side) (listed : List Bool) (e : List ℤ) (places : List ℕ) → AreUnbalancedListed listed e → ((k : ℕ) → in_set listed k ≡ true → Any (λ p. p ≡ k) places) → (v : ℕ) → IsRoot side (number_at e v) → IsListed places (length places) v
root_listed side listed e places are named v root = by_mark (in_set listed v) refl
  where
    by_mark : (b : Bool) → in_set listed v ≡ b → IsListed places (length places) v
    by_mark true is =
        let there = named v is in
        record { place = there.0; in_list = omega (arith, there.2); is_there = get_or_default places there.0 0 there.1 there.2 ∙ there.3 ∙ there.4 }
    by_mark false is = absurd (root_unbalanced side (number_at e v) root (are.balanced v is))

-- of the nodes on a list those out of balance are listed anew
pub listed_anew : (listed listed' : List Bool) (e : List ℤ) (nodes : List ℕ) → AreUnbalancedListed listed e → ((v : ℕ) → in_set listed v ≡ true → Any (λ p. p ≡ v) nodes) → length listed' ≡ length e → All (IsBalancedOrListed listed' e) nodes → AreUnbalancedListed listed' e
listed_anew listed listed' e nodes are named sized all = record {
  one_a_node = sized;
  balanced = λ v out. (elim (noted_or_not listed v) [
    | inl noted ↦ (let at = named_at nodes v (named v noted) in subst (IsBalancedOrListed listed' e) at.is_there (all at.place 0 at.in_list) out)
    | inr free ↦ are.balanced v free
  ]);
}

-- once a journal brought excesses back, and the nodes that it notes are listed where they are out of balance, all these are
pub listed_back : (listed listed' : List Bool) (j : Journal) (es ys : List ℤ) (nodes : List ℕ) → AreUnbalancedListed listed ys → IsSince j es ys → length listed' ≡ length listed → ((v : ℕ) → in_set listed v ≡ true → in_set listed' v ≡ true)
    → ((v : ℕ) → in_set j.written v ≡ true → Any (λ p. p ≡ v) nodes) → All (IsBalancedOrListed listed' es) nodes → AreUnbalancedListed listed' es
listed_back listed listed' j es ys nodes are since sized still named all = record {
  one_a_node = sized ∙ are.one_a_node ∙ since.same_length;
  balanced = λ v out. (elim (noted_or_not j.written v) [
    | inl noted ↦ (let at = named_at nodes v (named v noted) in subst (IsBalancedOrListed listed' es) at.is_there (all at.place 0 at.in_list) out)
    | inr free ↦ sym (since.elsewhere v free (pos 0)) ∙ are.balanced v (elim (noted_or_not listed v) [
      | inl is ↦ absurd (true≢false (sym (still v is) ∙ out))
      | inr not_listed ↦ not_listed
    ])
  ]);
}

-- ---- the roots of a side, marked in the order of a list

-- no node is marked but roots, and of the first j places on the list those are marked that are roots
pub record AreRootsMarked (side : Side) (e : List ℤ) (places : List ℕ) (j : ℕ) (set : List Bool) : Type 0 where
  pub roots : (v : ℕ) → in_set set v ≡ true → IsRoot side (number_at e v)
  pub marked : (i : ℕ) → i < j → IsRoot side (number_at e (node_at places i)) → in_set set (node_at places i) ≡ true

module _ (side : Side) (e : List ℤ) (places : List ℕ) (j : ℕ) (set : List Bool) (are : AreRootsMarked side e places j set) where
  pub root_marked : node_at places j < length set → IsRoot side (number_at e (node_at places j)) → AreRootsMarked side e places (j + 1) (slice_set set (node_at places j) true)
  root_marked there root = record {
    roots = λ v h. (elim (cases_eq v (node_at places j)) [
      | inl same ↦ subst (λ (q : ℕ). IsRoot side (number_at e q)) (sym same) root
      | inr ne ↦ are.roots v (sym (get_or-set_other set (node_at places j) v true false ne) ∙ h)
    ]);
    marked = λ i lt is_root. (elim (cases_eq i j) [
      | inl same ↦ subst (λ (q : ℕ). in_set (slice_set set (node_at places j) true) (node_at places q) ≡ true) (sym same) (get_or-set_same set (node_at places j) true false there)
      | inr ne ↦ still_noted set (node_at places j) (node_at places i) there (are.marked i (omega (arith, lt, ne)) is_root)
    ]);
  }

  pub no_root_passed : (IsRoot side (number_at e (node_at places j)) → ⊥) → AreRootsMarked side e places (j + 1) set
  no_root_passed no_root = record {
    roots = are.roots;
    marked = λ i lt is_root. (elim (cases_eq i j) [
      | inl same ↦ absurd (no_root (subst (λ (q : ℕ). IsRoot side (number_at e (node_at places q))) same is_root))
      | inr ne ↦ are.marked i (omega (arith, lt, ne)) is_root
    ]);
  }

-- ---- what lies at the roots of a side, summed over the nodes that are listed

pub left-small : (nodes : ℕ) (e : List ℤ) → AreSmall e → length e ≡ nodes → nodes ≤ entry_limit → left e ≤ left_limit
left-small nodes e small sized few =
    omega (arith, sum_by-le part_above_0 excess_limit e (λ k d lt. part_small (slice_index_or e k d) (rw (get_or_default e k d (pos 0) lt) (small.high k))))
  where
    part_small : (z : ℤ) → z ≤ℤ pos excess_limit → part_above_0 z ≤ excess_limit
    part_small (pos n) h = omega (arith, ints)
    part_small (negsuc n) h = omega arith

pub lack-small : (e : List ℤ) → AreSmall e → length e ≤ entry_limit → lack e ≤ left_limit
lack-small e small few =
    omega (arith, sum_by-le (λ (z : ℤ). part_above_0 (neg_ℤ z)) excess_limit e (λ k d lt. part_small (slice_index_or e k d) (rw (get_or_default e k d (pos 0) lt) (small.low k))))
  where
    part_small : (z : ℤ) → neg_ℤ (pos excess_limit) ≤ℤ z → part_above_0 (neg_ℤ z) ≤ excess_limit
    part_small (pos zero) h = omega arith
    part_small (pos (suc n)) h = omega arith
    part_small (negsuc n) h = omega (arith, ints)

amount_is : (side : Side) (e : List ℤ) → amount side e ≡ sum_by (amount_of side) e
amount_is Ahead e = refl
amount_is Behind e = refl

amount_of-none : (side : Side) → amount_of side (pos 0) ≡ 0
amount_of-none Ahead = refl
amount_of-none Behind = refl

pub amount-small : (side : Side) (e : List ℤ) → AreSmall e → length e ≤ entry_limit → amount side e ≤ left_limit
amount-small Ahead e small few = left-small (length e) e small refl few
amount-small Behind e small few = lack-small e small few

-- the first j nodes of a list have n units, and all others what a table has that holds 0 at the first j
pub record IsCounted (side : Side) (nodes : List ℕ) (j : ℕ) (e : List ℤ) (n : ℕ) : Type 0 where
  pub table : List ℤ
  pub rest : AreLeft nodes j table (replicate (length e) (pos 0))
  pub not_yet : (i : ℕ) → j ≤ i → i < length nodes → number_at table (node_at nodes i) ≡ number_at e (node_at nodes i)
  pub units : n + amount side table ≡ amount side e

pub IsCounted-none : (side : Side) (listed : List Bool) (e : List ℤ) (nodes : List ℕ) → AreUnbalancedListed listed e → ((v : ℕ) → in_set listed v ≡ true → Any (λ p. p ≡ v) nodes) → IsCounted side nodes 0 e 0
IsCounted-none side listed e nodes are named =
    let none = replicate (length e) (pos 0) in
    record {
      table = e;
      rest = AreLeft-start nodes e none (length-replicate (length e) (pos 0)) (λ k lt. elim (noted_or_not listed k) [
        | inl noted ↦ inl (subst (λ (q : ℕ). Any (λ p. p ≡ q) nodes) (omega arith) (named k noted))
        | inr out ↦ inr (λ d. get_or-replicate (length e) k (pos 0) d lt ∙ sym (get_or_default e k d (pos 0) lt ∙ are.balanced k out))
      ]);
      not_yet = λ i le lt. refl;
      units = omega arith;
    }

pub IsCounted-more : (side : Side) (nodes : List ℕ) (j : ℕ) (e : List ℤ) (n : ℕ) → AllPairs ◌≢◌ nodes → j < length nodes → node_at nodes j < length e → IsCounted side nodes j e n → IsCounted side nodes (j + 1) e (n + amount_of side (number_at e (node_at nodes j)))
IsCounted-more side nodes j e n apart j_in there are =
    let v = node_at nodes j in
    let none = replicate (length e) (pos 0) in
    let v_in : v < length are.table = omega (arith, there, are.rest.same_length, length-replicate (length e) (pos 0)) in
    let kept = ap (amount_of side) (are.not_yet j (omega arith) j_in) in
    let put = sum_by-set (amount_of side) are.table v (pos 0) (pos 0) v_in in
    record {
      table = slice_set are.table v (pos 0);
      rest = AreLeft-more nodes j are.table none (pos 0) are.rest v_in (sym (get_or-replicate (length e) v (pos 0) (pos 0) there));
      not_yet = λ i le lt. get_or-set_other are.table v (node_at nodes i) (pos 0) (pos 0) (λ same. apart j i 0 (omega (arith, le)) lt (sym same)) ∙ are.not_yet i (omega (arith, le)) lt;
      units = omega (arith, kept, put, amount_of-none side, amount_is side are.table, amount_is side (slice_set are.table v (pos 0)), are.units);
    }

pub IsCounted-all : (side : Side) (nodes : List ℕ) (j : ℕ) (e : List ℤ) (n : ℕ) → IsCounted side nodes j e n → length nodes ≤ j → n ≡ amount side e
IsCounted-all side nodes j e n are all =
    let none = replicate (length e) (pos 0) in
    omega (arith, are.units, ap (amount side) (AreLeft-all nodes j are.table none are.rest all), amount_is side none, sum_by-replicate (amount_of side) (length e) (pos 0), ap (λ (m : ℕ). length e * m) (amount_of-none side))
