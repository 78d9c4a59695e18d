use Rattle.std.specs.Prelude.{pos, ℕ, ◌≡◌, ◌<ℤ◌}
use Rattle.residual_graph.specs.Residual.{number_at}
use Rattle.predecessors.specs.Predecessor.{rank_at}
use Rattle.shortest_paths.specs.Search.{IsReached, open_count}
use Rattle.shortest_paths.proofs.StepLemmas.{AreAlong, IsClimbing, IsFirstFound, IsUnderway}
use Rattle.shortest_paths.proofs.tree.Tree.search_from_excess.Given as goal

abbrev pub invariant-loop-node : goal.invariant-loop-node
invariant-loop-node l = record {
  underway : IsUnderway l.graph.rows l.flow l.potentials l.predecessors l.queue l.distance;
  along : AreAlong l.graph.rows l.flow l.potentials l.predecessors l.queue;
  climbing : IsClimbing l.potentials l.predecessors l.distance;
  sources : (v : ℕ) → pos 0 <ℤ number_at l.excess v → IsReached l.predecessors v;
  roots : (v : ℕ) → IsReached l.predecessors v → rank_at l.predecessors v ≡ 0 → pos 0 <ℤ number_at l.excess v;
  found : IsFirstFound l.excess l.predecessors l.found;
}

abbrev pub decreases-loop-node : goal.decreases-loop-node
decreases-loop-node l = open_count l.predecessors
