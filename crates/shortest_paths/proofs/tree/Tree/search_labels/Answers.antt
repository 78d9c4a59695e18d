use Rattle.std.proofs.Common.{◌≡◌, ◌∙◌, ◌/◌, ◌<◌, ◌+ℤ◌, ℕ, ℤ, List, pos, ap, arith, inl, inr, length, refl, rules, slice_set, subst, sym}
use Rattle.std.specs.Prelude.{◌<ℤ◌, false}
use Rattle.std.proofs.lemmas.Int.{ints}
use Rattle.std.proofs.lemmas.List.{get_or-set_same, with_items_is}
use Rattle.containers.specs.declared.queue.Waiting.{Waiting}
use Rattle.containers.specs.Queue.{entry_at, key_at}
use Rattle.residual_graph.specs.Limits.{entry_limit, potential_floor}
use Rattle.residual_graph.specs.Residual.{AreGreatest, ArePotentials, IsReducedCostOptimal, number_at}
use Rattle.predecessors.specs.declared.predecessor.Predecessor.{Predecessor}
use Rattle.predecessors.specs.Limits.{label_floor}
use Rattle.predecessors.specs.Predecessor.{root_node}
use Rattle.shortest_paths.specs.Search.{AreRaised, AreServedFrom, HaveJoined, IsOpen, IsSearch, come_from, open_count, rank_before}
use Rattle.shortest_paths.specs.Tree.{TreeView}
use Rattle.shortest_paths.proofs.StepLemmas.{HaveJoined-refl, IsRising, IsUnderway, below_or_not, bounded_rising, certified_raised, fewer, greatest_raised, later_rising, of_tables, potential_in, node_in, raised_along, raised_root, rank_fits, rising_after, rising_first, root_or_along, search_along, search_root, underway_after, underway_rising, was_waiting, within_raised}
use Rattle.shortest_paths.proofs.tree.Tree.search_labels.Goals as goal
use Rattle.shortest_paths.proofs.tree.Tree.search_labels.Goals.{After-settle}

pub loop-node-init : goal.loop-node-init
loop-node-init c =
    let rows = c.args.graph.now.rows in
    let t = c.fill.new.self in
    let sized : length t ≡ length c.deref_mut-potentials.result.now = search rules in
    let all_open : (v : ℕ) → v < length t → IsOpen t v = search rules in
    let labels_are = c.deref_mut-potentials.ensures.value ∙ ap (λ (tree : TreeView). tree.labels) (c.self.view_is ∙ c.forget.ensures) in
    let certified = subst (IsReducedCostOptimal rows c.args.flow.now) (sym labels_are) c.requires.certified in
    record {
      distance = pos 0;
      underway = underway_rising rows c.args.flow.now c.deref_mut-potentials.result.now t c.offer_all.new.queue certified sized all_open c.offer_all.ensures;
      rising = rising_first rows c.args.flow.now c.deref_mut-potentials.result.now t c.offer_all.new.queue certified sized all_open c.offer_all.ensures;
    }

pub settle-requires-clause-fits : goal.settle-requires-clause-fits
settle-requires-clause-fits c =
    let inv = c.loop-node.invariant in
    let taken = c.in-Some.ensures.first in
    let same = ap (λ (w : Waiting). w.key) (was_waiting _ _ c.in-Some.node _ taken c.entry-waiting.ensures) in
    omega (arith, ints, potential_in _ _ _ _ _ _ _ _ inv.underway taken inv.rising, same)

pub settle-requires-clause-along : goal.settle-requires-clause-along
settle-requires-clause-along c =
    let inv = c.loop-node.invariant in
    let taken = c.in-Some.ensures.first in
    let waiting = was_waiting _ _ c.in-Some.node _ taken c.entry-waiting.ensures in
    let along = λ (below : (number_at c.loop-node.potentials c.in-Some.node +ℤ c.entry-waiting.result.key) <ℤ pos 0).
    root_or_along _ _ _ _ _ _ _ _ inv.underway taken inv.rising (omega (arith, ints, below, ap (λ (w : Waiting). w.key) waiting)) in
    record {
      is_arc = λ below. subst (λ (w : Waiting). w.end / 2 < length c.args.graph.now.rows) (sym waiting) (along below).crosses.residual.is_arc;
      low = λ below. subst (λ (w : Waiting). rank_before c.args.graph.now.rows c.loop-node.predecessors w.end < entry_limit) (sym waiting) (rank_fits _ _ _ _ _ _ _ _ inv.underway taken (along below));
    }

potentials_are : (c : After-settle) → c.settle.new.potentials ≡ slice_set c.loop-node.potentials c.in-Some.node (number_at c.loop-node.potentials c.in-Some.node +ℤ key_at c.loop-node.queue.entries c.in-Some.node)
potentials_are c = c.settle.ensures.raised ∙ ap (λ (w : Waiting). slice_set c.loop-node.potentials c.in-Some.node (number_at c.loop-node.potentials c.in-Some.node +ℤ w.key)) (was_waiting _ _ c.in-Some.node _ c.in-Some.ensures.first c.entry-waiting.ensures)

-- how the node was settled: as a root, or along a residual arc
record IsSettledBy (c : After-settle) : Type 0 where
  by : Predecessor
  closed : by.is_open ≡ false
  predecessors_are : c.settle.new.predecessors ≡ slice_set c.loop-node.predecessors c.in-Some.node by
  search : IsSearch c.args.graph.now.rows c.args.flow.now (slice_set c.loop-node.potentials c.in-Some.node (number_at c.loop-node.potentials c.in-Some.node +ℤ key_at c.loop-node.queue.entries c.in-Some.node)) (slice_set c.loop-node.predecessors c.in-Some.node by)
  raised : AreRaised (slice_set c.loop-node.potentials c.in-Some.node (number_at c.loop-node.potentials c.in-Some.node +ℤ key_at c.loop-node.queue.entries c.in-Some.node)) (slice_set c.loop-node.predecessors c.in-Some.node by)

is_settled : (c : After-settle) → IsSettledBy c
is_settled c =
    let inv = c.loop-node.invariant in
    let taken = c.in-Some.ensures.first in
    let waiting = was_waiting _ _ c.in-Some.node _ taken c.entry-waiting.ensures in
    let same = ap (λ (w : Waiting). w.key) waiting in
    let here = ap (λ (l : List ℤ). number_at l c.in-Some.node) c.settle.ensures.raised
    ∙ get_or-set_same c.loop-node.potentials c.in-Some.node (number_at c.loop-node.potentials c.in-Some.node +ℤ c.entry-waiting.result.key) (pos 0) (omega (arith, node_in _ _ _ _ _ _ _ _ inv.underway taken, inv.underway.search.sized)) in
    elim (below_or_not (number_at c.loop-node.potentials c.in-Some.node +ℤ c.entry-waiting.result.key)) [
      | inl below ↦
          (let along = root_or_along _ _ _ _ _ _ _ _ inv.underway taken inv.rising (omega (arith, ints, below, same)) in
          record {
            by = come_from c.args.graph.now.rows c.loop-node.predecessors (entry_at c.loop-node.queue.entries c.in-Some.node).end;
            closed = refl;
            predecessors_are = c.settle.ensures.settled.along (omega (arith, ints, below, here)) ∙ ap (λ (w : Waiting). slice_set c.loop-node.predecessors c.in-Some.node (come_from c.args.graph.now.rows c.loop-node.predecessors w.end)) waiting;
            search = search_along _ _ _ _ _ _ _ _ inv.underway taken along;
            raised = raised_along _ _ _ _ _ _ _ _ inv.underway taken inv.rising along;
          })
      | inr high ↦ record {
        by = root_node;
        closed = refl;
        predecessors_are = c.settle.ensures.settled.root (omega (arith, ints, high, here));
        search = search_root _ _ _ _ _ _ _ _ inv.underway taken inv.rising;
        raised = raised_root _ _ _ _ _ _ _ _ inv.underway taken inv.rising (omega (arith, ints, high, same));
      }
    ]

potentials_in : (c : After-settle) → ArePotentials (length c.settle.new.potentials) potential_floor c.settle.new.potentials
potentials_in c =
    let taken = c.in-Some.ensures.first in
    let inv = c.loop-node.invariant in
    let settled = is_settled c in
    let r = c.take_first.new.self in
    subst (λ (p : List ℤ). ArePotentials (length p) potential_floor p) (sym (potentials_are c))
    (rising_after _ _ _ _ _ _ _ _ inv.underway taken inv.rising settled.by settled.closed r (HaveJoined-refl _ _ _ _ r) settled.raised).potentials

pub invariant_of-reached-clause-bounded : goal.invariant_of-reached-clause-bounded
invariant_of-reached-clause-bounded c = bounded_rising _ (potentials_in (goal.at.invariant_of-reached-clause-bounded c).After-settle)

pub loop-node-smaller : goal.loop-node-smaller
loop-node-smaller c =
    let s = (goal.at.loop-node-smaller c).After-settle in
    let taken = c.in-Some.ensures.first in
    let inv = c.loop-node.invariant in
    let settled = is_settled s in
    let later = later_rising _ _ _ _ _ _ _ _ inv.underway taken inv.rising in
    omega (arith, fewer _ _ _ _ _ _ _ _ inv.underway taken settled.by settled.closed later, ap open_count settled.predecessors_are)

pub loop-node-preserved : goal.loop-node-preserved
loop-node-preserved c =
    let s = (goal.at.loop-node-preserved c).After-settle in
    let taken = c.in-Some.ensures.first in
    let inv = c.loop-node.invariant in
    let rows = c.args.graph.now.rows in
    let x = c.args.flow.now in
    let r = c.take_first.new.self in
    let queue = c.offer_from.new.queue in
    let v = c.in-Some.node in
    let key = key_at c.loop-node.queue.entries v in
    let settled = is_settled s in
    let later = later_rising _ _ _ _ _ _ _ _ inv.underway taken inv.rising in
    let grown = of_tables (λ (p : List ℤ) (t : List Predecessor). HaveJoined rows x p t r queue) (sym (potentials_are s)) (sym settled.predecessors_are) c.offer_from.ensures.grown in
    let served = of_tables (λ (p : List ℤ) (t : List Predecessor). AreServedFrom rows x p t queue v) (sym (potentials_are s)) (sym settled.predecessors_are) c.offer_from.ensures.served in
    record {
      distance = key;
      underway = of_tables (λ (p : List ℤ) (t : List Predecessor). IsUnderway rows x p t queue key) (potentials_are s) settled.predecessors_are
          (underway_after _ _ _ _ _ _ _ _ inv.underway taken settled.by settled.closed later settled.search queue grown served);
      rising = of_tables (λ (p : List ℤ) (t : List Predecessor). IsRising rows x p t queue key) (potentials_are s) settled.predecessors_are
          (rising_after _ _ _ _ _ _ _ _ inv.underway taken inv.rising settled.by settled.closed queue grown settled.raised);
    }

pub returns-clause-certified : goal.returns-clause-certified
returns-clause-certified c =
    let inv = c.loop-node.invariant in
    let labels_end = with_items_is c.self.inside.labels c.loop-node.potentials (c.loop-node.auto.potentials ∙ c.deref_mut-potentials.ensures.len) in
    subst (IsReducedCostOptimal c.args.graph.now.rows c.args.flow.now) (sym labels_end) (certified_raised _ _ _ _ _ _ inv.underway inv.rising c.in_default.ensures.first)

pub returns-clause-within : goal.returns-clause-within
returns-clause-within c =
    let inv = c.loop-node.invariant in
    let labels_end = with_items_is c.self.inside.labels c.loop-node.potentials (c.loop-node.auto.potentials ∙ c.deref_mut-potentials.ensures.len) in
    subst (λ (p : List ℤ). ArePotentials (length p) label_floor p) (sym labels_end) (within_raised _ _ _ _ _ _ inv.underway inv.rising c.in_default.ensures.first)

pub returns-clause-greatest : goal.returns-clause-greatest
returns-clause-greatest c =
    let inv = c.loop-node.invariant in
    let labels_end = with_items_is c.self.inside.labels c.loop-node.potentials (c.loop-node.auto.potentials ∙ c.deref_mut-potentials.ensures.len) in
    subst (AreGreatest c.args.graph.now.rows c.args.flow.now) (sym labels_end) (greatest_raised _ _ _ _ _ _ inv.underway inv.rising c.in_default.ensures.first)
