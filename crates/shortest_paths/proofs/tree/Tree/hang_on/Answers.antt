use Rattle.std.proofs.Common.{◌≡◌, false, slice_set, subst, sym}
use Rattle.std.proofs.lemmas.List.{get_or_read}
use Rattle.predecessors.specs.declared.predecessor.Predecessor.{Predecessor}
use Rattle.predecessors.specs.Predecessor.{predecessor_at}
use Rattle.shortest_paths.specs.Search.{IsForest}
use Rattle.shortest_paths.proofs.LevelLemmas.{forest_hung}
use Rattle.shortest_paths.proofs.tree.Tree.hang_on.Goals as goal

pub returns-clause-forest : goal.returns-clause-forest
returns-clause-forest c =
    let t = c.self.inside in
    let rows = c.args.graph.now.rows in
    let v = c.args.node in
    let forest = rw (← c.self.view_is) at c.requires.forest in
    let node = rw (← c.self.view_is) at c.requires.node in
    let hanging = rw (c.deref.ensures.value, c.deref-2.ensures.value) at (c.is_hanging_on.ensures c.if-not-is_hanging_on.false) in
    let same : c.index_mut.result.now ≡ predecessor_at t.predecessors.items v =
    get_or_read t.predecessors.items v c.index_mut.result.now (rw forest.sized node) c.index_mut.ensures.value (record { end = 0; rank = 0; is_open = false }) in
    subst (λ (r : Predecessor). IsForest rows t.labels.items (slice_set t.predecessors.items v (record { end = c.args.end; rank = r.rank; is_open = r.is_open }))) (sym same)
    (forest_hung rows t.labels.items t.predecessors.items v c.args.end (rw forest.sized node) forest hanging)
