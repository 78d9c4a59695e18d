use Rattle.std.proofs.Common.{◌≡◌, ◌∙◌, ◌/◌, ◌<◌, ◌≤ℤ◌, ◌+ℤ◌, ℕ, ℤ, List, ◌*◌, pos, ap, arith, length, refl, rules, slice_set, subst, sym, w64, SFits, to_z, of_z}
use Rattle.std.specs.Prelude.{◌<ℤ◌}
use Rattle.std.proofs.lemmas.Int.{ints, to_z-of_z}
use Rattle.std.proofs.lemmas.List.{with_items_is}
use Rattle.containers.specs.declared.queue.Waiting.{Waiting}
use Rattle.containers.specs.Queue.{entry_at, key_at}
use Rattle.residual_graph.specs.Limits.{entry_limit, potential_floor}
use Rattle.residual_graph.specs.Residual.{ArePotentials, IsPseudoflow, IsReducedCostOptimal, NoneBelowBy, number_at, start_at}
use Rattle.residual_graph.specs.Walk.{end_way}
use Rattle.predecessors.specs.Limits.{label_floor}
use Rattle.predecessors.specs.declared.predecessor.Predecessor.{Predecessor}
use Rattle.predecessors.specs.Predecessor.{rank_at}
use Rattle.shortest_paths.specs.Search.{AreLowered, AreServedFrom, HaveJoined, IsDeficitFound, IsReached, IsSearch, come_from, open_count}
use Rattle.shortest_paths.specs.Tree.{TreeView}
use Rattle.shortest_paths.proofs.StepLemmas.{AreAlong, IsClimbing, IsUnderway, along_after, was_waiting, along_first, bounded_climbing, certified_lowered, climbing_after, climbing_first, fewer, IsFirstFound, found_after, found_before_end, found_or_exhausted, key_enough, later_along, node_in, none_below_after, of_tables, rank_fits, risen, roots_after, search_along, search_lowered, sources_after, underway_after, underway_first}
use Rattle.shortest_paths.proofs.tree.Tree.search_from_excess.Goals as goal
use Rattle.shortest_paths.proofs.tree.Tree.search_from_excess.Goals.{After-come_along}

pub loop-node-init : goal.loop-node-init
loop-node-init c =
    let rows = c.args.graph.now.rows in
    let t = c.begin_in_excess.new.predecessors in
    let sized : length t ≡ length c.deref_mut-potentials.result.now = search rules in
    let as_many : length c.clear.new.self.entries ≡ length c.deref_mut-potentials.result.now = search rules in
    let labels_are = c.deref_mut-potentials.ensures.value ∙ ap (λ (tree : TreeView). tree.labels) (c.self.view_is ∙ c.forget.ensures) in
    let certified = subst (IsReducedCostOptimal rows c.args.flow.now) (sym labels_are) c.requires.certified in
    record {
      underway = underway_first rows c.args.flow.now c.deref_mut-potentials.result.now t _ _ certified sized c.begin_in_excess.ensures.flat as_many c.clear.ensures.none c.offer_from_all.ensures.grown c.offer_from_all.ensures.served;
      along = along_first rows c.args.flow.now c.deref_mut-potentials.result.now t _ _ certified sized c.begin_in_excess.ensures.flat as_many c.clear.ensures.none c.offer_from_all.ensures.grown;
      climbing = climbing_first c.deref_mut-potentials.result.now t (subst (λ (p : List ℤ). ArePotentials (length p) label_floor p) (sym labels_are) c.requires.in_range);
      sources = c.begin_in_excess.ensures.from.sources;
      roots = c.begin_in_excess.ensures.from.roots;
      found = c.begin_in_excess.ensures.from.no_deficit;
    }

-- the key, as words hold it
key_is : (w : Waiting) (key : ℤ) → w.key ≡ key → (pos 0 ≤ℤ key) × (key ≤ℤ pos potential_floor) → to_z w64 (of_z w64 w.key) ≡ key
key_is w key same enough =
    let fits : SFits w64 w.key = omega (arith, ints, enough, same) in
    to_z-of_z w64 w.key fits ∙ same

enough : {key : ℤ} → (pos 0 ≤ℤ key) × (key ≤ℤ pos (2 * label_floor)) → (pos 0 ≤ℤ key) × (key ≤ℤ pos potential_floor)
enough {key} is = (is.0, omega (arith, ints, is.1))

pub raise-requires-clause-fits : goal.raise-requires-clause-fits
raise-requires-clause-fits c =
    let inv = c.loop-node.invariant in
    let taken = c.in-Some.ensures.first in
    let v = c.in-Some.node in
    let same = ap (λ (w : Waiting). w.key) (was_waiting _ _ v _ taken c.entry-waiting.ensures) in
    let key = key_enough _ _ _ _ _ _ _ v inv.underway taken (inv.along v taken.was) inv.climbing in
    omega (arith, ints, key, same, inv.climbing.at_least v, inv.climbing.at_open v (inv.underway.opens v taken.was))

pub come_along-requires-clause-low : goal.come_along-requires-clause-low
come_along-requires-clause-low c =
    let inv = c.loop-node.invariant in
    let taken = c.in-Some.ensures.first in
    let v = c.in-Some.node in
    subst (λ (w : Waiting). rank_at c.loop-node.predecessors (start_at c.args.graph.now.rows (w.end / 2) (end_way w.end)) < entry_limit) (sym (was_waiting _ _ v _ taken c.entry-waiting.ensures))
    (rank_fits _ _ _ _ _ _ _ v inv.underway taken (inv.along v taken.was))

pub come_along-requires-clause-end : goal.come_along-requires-clause-end
come_along-requires-clause-end c =
    let inv = c.loop-node.invariant in
    let taken = c.in-Some.ensures.first in
    let v = c.in-Some.node in
    subst (λ (w : Waiting). w.end / 2 < length c.args.graph.now.rows) (sym (was_waiting _ _ v _ taken c.entry-waiting.ensures)) (inv.along v taken.was).crosses.residual.is_arc

-- the tables after a step
potentials_are : (c : After-come_along) → c.raise.new.potentials ≡ slice_set c.loop-node.potentials c.in-Some.node (number_at c.loop-node.potentials c.in-Some.node +ℤ key_at c.loop-node.queue.entries c.in-Some.node)
potentials_are c = c.raise.ensures ∙ ap (λ (w : Waiting). slice_set c.loop-node.potentials c.in-Some.node (number_at c.loop-node.potentials c.in-Some.node +ℤ w.key)) (was_waiting _ _ c.in-Some.node _ c.in-Some.ensures.first c.entry-waiting.ensures)

predecessors_are : (c : After-come_along) → c.come_along.new.predecessors ≡ slice_set c.loop-node.predecessors c.in-Some.node (come_from c.args.graph.now.rows c.loop-node.predecessors (entry_at c.loop-node.queue.entries c.in-Some.node).end)
predecessors_are c = c.come_along.ensures ∙ ap (λ (w : Waiting). slice_set c.loop-node.predecessors c.in-Some.node (come_from c.args.graph.now.rows c.loop-node.predecessors w.end)) (was_waiting _ _ c.in-Some.node _ c.in-Some.ensures.first c.entry-waiting.ensures)

-- what stands after a step
record IsStepped (c : After-come_along) : Type 0 where
  flow : IsPseudoflow (length c.raise.new.potentials) c.args.graph.now.rows c.args.flow.now
  search : IsSearch c.args.graph.now.rows c.args.flow.now c.raise.new.potentials c.come_along.new.predecessors
  none_below : NoneBelowBy c.args.graph.now.rows c.args.flow.now (risen c.raise.new.potentials c.come_along.new.predecessors (key_at c.loop-node.queue.entries c.in-Some.node))
  climbing : IsClimbing c.raise.new.potentials c.come_along.new.predecessors (key_at c.loop-node.queue.entries c.in-Some.node)
  enough : (pos 0 ≤ℤ key_at c.loop-node.queue.entries c.in-Some.node) × (key_at c.loop-node.queue.entries c.in-Some.node ≤ℤ pos potential_floor)
  word : to_z w64 (of_z w64 c.entry-waiting.result.key) ≡ key_at c.loop-node.queue.entries c.in-Some.node

is_stepped : (c : After-come_along) → IsStepped c
is_stepped c =
    let inv = c.loop-node.invariant in
    let taken = c.in-Some.ensures.first in
    let along = inv.along c.in-Some.node taken.was in
    let is_enough = enough (key_enough _ _ _ _ _ _ _ _ inv.underway taken along inv.climbing) in
    let rows = c.args.graph.now.rows in
    let x = c.args.flow.now in
    let key = key_at c.loop-node.queue.entries c.in-Some.node in
    let later = later_along _ _ _ _ _ _ _ _ inv.underway taken along in
    record {
      flow = subst (λ (n : ℕ). IsPseudoflow n rows x) (sym c.raise.auto.potentials) inv.underway.flow;
      search = of_tables (IsSearch rows x) (potentials_are c) (predecessors_are c) (search_along _ _ _ _ _ _ _ _ inv.underway taken along);
      none_below = of_tables (λ (p : List ℤ) (t : List Predecessor). NoneBelowBy rows x (risen p t key)) (potentials_are c) (predecessors_are c) (none_below_after _ _ _ _ _ _ _ _ inv.underway taken _ refl later);
      climbing = of_tables (λ (p : List ℤ) (t : List Predecessor). IsClimbing p t key) (potentials_are c) (predecessors_are c) (climbing_after _ _ _ _ _ _ _ _ inv.underway taken along inv.climbing);
      enough = is_enough;
      word = key_is c.entry-waiting.result key (ap (λ (w : Waiting). w.key) (was_waiting _ _ c.in-Some.node _ taken c.entry-waiting.ensures)) is_enough;
    }

pub lower_reached-requires-clause-bounded : goal.lower_reached-requires-clause-bounded
lower_reached-requires-clause-bounded c =
    let stepped = is_stepped (goal.at.lower_reached-requires-clause-bounded c).After-come_along in
    bounded_climbing _ _ _ stepped.search.sized stepped.climbing

pub lower_reached-requires-clause-fall : goal.lower_reached-requires-clause-fall
lower_reached-requires-clause-fall c =
    let stepped = is_stepped (goal.at.lower_reached-requires-clause-fall c).After-come_along in
    subst (λ (n : ℤ). (pos 0 ≤ℤ n) × (n ≤ℤ pos potential_floor)) (sym stepped.word) stepped.enough

pub lower_reached-requires-2-clause-bounded : goal.lower_reached-requires-2-clause-bounded
lower_reached-requires-2-clause-bounded c =
    let inv = c.loop-node.invariant in
    bounded_climbing _ _ _ inv.underway.search.sized inv.climbing

pub returns-then-is_last-clause-certified : goal.returns-then-is_last-clause-certified
returns-then-is_last-clause-certified c =
    let s = (goal.at.returns-then-is_last-clause-certified c).After-come_along in
    let stepped = is_stepped s in
    let predecessors_end = with_items_is c.self.inside.predecessors c.come_along.new.predecessors (omega (arith, c.come_along.auto.predecessors, c.loop-node.auto.predecessors, c.begin_in_excess.auto.predecessors, c.deref_mut-predecessors.ensures.len)) in
    let lowered : AreLowered c.raise.new.potentials c.lower_reached.new.potentials c.come_along.new.predecessors (key_at c.loop-node.queue.entries c.in-Some.node) = subst (AreLowered c.raise.new.potentials c.lower_reached.new.potentials c.come_along.new.predecessors) stepped.word (rw (c.deref.ensures.value, predecessors_end) at c.lower_reached.ensures) in
    let labels_end = with_items_is c.self.inside.labels c.lower_reached.new.potentials (omega (arith, c.lower_reached.auto.potentials, c.raise.auto.potentials, c.loop-node.auto.potentials, c.deref_mut-potentials.ensures.len)) in
    subst (IsReducedCostOptimal c.args.graph.now.rows c.args.flow.now) (sym labels_end) (certified_lowered _ _ _ _ _ stepped.flow stepped.search stepped.none_below stepped.climbing c.lower_reached.new.potentials lowered)

-- what was found after a step, and where the search began
roots_stepped : (c : After-come_along) (u : ℕ) → IsReached c.come_along.new.predecessors u → rank_at c.come_along.new.predecessors u ≡ 0 → pos 0 <ℤ number_at c.args.excess.now u
roots_stepped c =
    let inv = c.loop-node.invariant in
    let taken = c.in-Some.ensures.first in
    let v = c.in-Some.node in
    subst (λ (t : List Predecessor). (u : ℕ) → IsReached t u → rank_at t u ≡ 0 → pos 0 <ℤ number_at c.args.excess.now u) (sym (predecessors_are c))
    (roots_after c.args.graph.now.rows c.args.excess.now c.loop-node.predecessors v _ (node_in _ _ _ _ _ _ _ _ inv.underway taken) (inv.underway.opens v taken.was) inv.roots)

pub returns-then-is_last-clause-found : goal.returns-then-is_last-clause-found
returns-then-is_last-clause-found c =
    let s = (goal.at.returns-then-is_last-clause-found c).After-come_along in
    let inv = c.loop-node.invariant in
    let taken = c.in-Some.ensures.first in
    let v = c.in-Some.node in
    let q = c.lower_reached.new.potentials in
    let stepped = is_stepped s in
    let predecessors_end = with_items_is c.self.inside.predecessors c.come_along.new.predecessors (omega (arith, c.come_along.auto.predecessors, c.loop-node.auto.predecessors, c.begin_in_excess.auto.predecessors, c.deref_mut-predecessors.ensures.len)) in
    let lowered : AreLowered c.raise.new.potentials q c.come_along.new.predecessors (key_at c.loop-node.queue.entries c.in-Some.node) = subst (AreLowered c.raise.new.potentials q c.come_along.new.predecessors) stepped.word (rw (c.deref.ensures.value, predecessors_end) at c.lower_reached.ensures) in
    let searched = search_lowered _ _ _ _ _ stepped.flow stepped.search stepped.none_below stepped.climbing q lowered in
    let found = subst (λ (t : List Predecessor). IsFirstFound c.args.excess.now t c.first_in_deficit-found.result) (sym (predecessors_are s))
    (found_after c.args.graph.now.rows c.args.excess.now c.loop-node.predecessors v _ (node_in _ _ _ _ _ _ _ _ inv.underway taken) (inv.underway.opens v taken.was) c.loop-node.found c.first_in_deficit-found.result c.first_in_deficit-found.ensures.some c.first_in_deficit-found.ensures.none inv.found) in
    let labels_end = with_items_is c.self.inside.labels q (omega (arith, c.lower_reached.auto.potentials, c.raise.auto.potentials, c.loop-node.auto.potentials, c.deref_mut-potentials.ensures.len)) in
    of_tables (λ (p : List ℤ) (t : List Predecessor). IsDeficitFound c.args.graph.now.rows c.args.flow.now p c.args.excess.now t c.first_in_deficit-found.result) labels_end predecessors_end
    (found_before_end _ _ _ _ _ c.first_in_deficit-found.result (c.is_last.ensures c.if-is_last.true) searched (roots_stepped s) found)

pub invariant_of-reached-clause-bounded : goal.invariant_of-reached-clause-bounded
invariant_of-reached-clause-bounded c =
    let stepped = is_stepped (goal.at.invariant_of-reached-clause-bounded c).After-come_along in
    bounded_climbing _ _ _ stepped.search.sized stepped.climbing

pub invariant_of-reached-clause-pseudoflow : goal.invariant_of-reached-clause-pseudoflow
invariant_of-reached-clause-pseudoflow c = (is_stepped (goal.at.invariant_of-reached-clause-pseudoflow c).After-come_along).flow

pub loop-node-smaller : goal.loop-node-smaller
loop-node-smaller c =
    let s = (goal.at.loop-node-smaller c).After-come_along in
    let taken = c.in-Some.ensures.first in
    let along = c.loop-node.invariant.along c.in-Some.node taken.was in
    let inv = c.loop-node.invariant in
    let later = later_along _ _ _ _ _ _ _ _ inv.underway taken along in
    let less = fewer _ _ _ _ _ _ _ _ inv.underway taken (come_from c.args.graph.now.rows c.loop-node.predecessors (entry_at c.loop-node.queue.entries c.in-Some.node).end) refl later in
    omega (arith, less, ap open_count (predecessors_are s))

pub loop-node-preserved : goal.loop-node-preserved
loop-node-preserved c =
    let s = (goal.at.loop-node-preserved c).After-come_along in
    let taken = c.in-Some.ensures.first in
    let along = c.loop-node.invariant.along c.in-Some.node taken.was in
    let inv = c.loop-node.invariant in
    let rows = c.args.graph.now.rows in
    let x = c.args.flow.now in
    let r = c.take_first.new.self in
    let queue = c.offer_from.new.queue in
    let v = c.in-Some.node in
    let later = later_along _ _ _ _ _ _ _ _ inv.underway taken along in
    let grown = of_tables (λ (p : List ℤ) (t : List Predecessor). HaveJoined rows x p t r queue) (sym (potentials_are s)) (sym (predecessors_are s)) c.offer_from.ensures.grown in
    let served = of_tables (λ (p : List ℤ) (t : List Predecessor). AreServedFrom rows x p t queue v) (sym (potentials_are s)) (sym (predecessors_are s)) c.offer_from.ensures.served in
    let searched = search_along _ _ _ _ _ _ _ _ inv.underway taken along in
    let node = node_in _ _ _ _ _ _ _ _ inv.underway taken in
    let was_open = inv.underway.opens v taken.was in
    record {
      underway = subst (IsUnderway rows x c.raise.new.potentials c.come_along.new.predecessors queue) (sym (is_stepped s).word)
          (of_tables (λ (p : List ℤ) (t : List Predecessor). IsUnderway rows x p t queue (key_at c.loop-node.queue.entries v)) (potentials_are s) (predecessors_are s) (underway_after _ _ _ _ _ _ _ _ inv.underway taken _ refl later searched queue grown served));
      along = of_tables (λ (p : List ℤ) (t : List Predecessor). AreAlong rows x p t queue) (potentials_are s) (predecessors_are s) (along_after _ _ _ _ _ _ _ _ inv.underway taken _ refl later searched queue grown served inv.along);
      climbing = subst (IsClimbing c.raise.new.potentials c.come_along.new.predecessors) (sym (is_stepped s).word) (is_stepped s).climbing;
      sources = subst (λ (t : List Predecessor). (u : ℕ) → pos 0 <ℤ number_at c.args.excess.now u → IsReached t u) (sym (predecessors_are s)) (sources_after rows c.args.excess.now c.loop-node.predecessors v _ node was_open inv.sources);
      roots = roots_stepped s;
      found = subst (λ (t : List Predecessor). IsFirstFound c.args.excess.now t c.first_in_deficit-found.result) (sym (predecessors_are s))
          (found_after rows c.args.excess.now c.loop-node.predecessors v _ node was_open c.loop-node.found c.first_in_deficit-found.result c.first_in_deficit-found.ensures.some c.first_in_deficit-found.ensures.none inv.found);
    }

pub returns-clause-certified : goal.returns-clause-certified
returns-clause-certified c =
    let inv = c.loop-node.invariant in
    let predecessors_end = with_items_is c.self.inside.predecessors c.loop-node.predecessors (omega (arith, c.loop-node.auto.predecessors, c.begin_in_excess.auto.predecessors, c.deref_mut-predecessors.ensures.len)) in
    let labels_end = with_items_is c.self.inside.labels c.lower_reached-2.new.potentials (omega (arith, c.lower_reached-2.auto.potentials, c.loop-node.auto.potentials, c.deref_mut-potentials.ensures.len)) in
    subst (IsReducedCostOptimal c.args.graph.now.rows c.args.flow.now) (sym labels_end) (certified_lowered _ _ _ _ _ inv.underway.flow inv.underway.search inv.underway.none_below inv.climbing _ (rw (c.deref-2.ensures.value, predecessors_end) at c.lower_reached-2.ensures))

pub returns-clause-found : goal.returns-clause-found
returns-clause-found c =
    let inv = c.loop-node.invariant in
    let predecessors_end = with_items_is c.self.inside.predecessors c.loop-node.predecessors (omega (arith, c.loop-node.auto.predecessors, c.begin_in_excess.auto.predecessors, c.deref_mut-predecessors.ensures.len)) in
    let searched = search_lowered _ _ _ _ _ inv.underway.flow inv.underway.search inv.underway.none_below inv.climbing _ (rw (c.deref-2.ensures.value, predecessors_end) at c.lower_reached-2.ensures) in
    let labels_are = c.deref_mut-potentials.ensures.value ∙ ap (λ (tree : TreeView). tree.labels) (c.self.view_is ∙ c.forget.ensures) in
    let labels_end = with_items_is c.self.inside.labels c.lower_reached-2.new.potentials (omega (arith, c.lower_reached-2.auto.potentials, c.loop-node.auto.potentials, c.deref_mut-potentials.ensures.len)) in
    of_tables (λ (p : List ℤ) (t : List Predecessor). IsDeficitFound c.args.graph.now.rows c.args.flow.now p c.args.excess.now t c.loop-node.found) labels_end predecessors_end
    (found_or_exhausted _ _ _ _ _ _ (omega (arith, inv.underway.search.sized, c.loop-node.auto.potentials, ap length labels_are, c.requires.excess_in)) searched
    (λ k way at. c.in_default.ensures.first _ (inv.underway.served k way at).0) inv.sources inv.roots inv.found)
