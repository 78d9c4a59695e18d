use Rattle.std.proofs.Common.{◌≡◌, ℕ, ◌<◌, pos}
use Rattle.std.specs.Prelude.{◌<ℤ◌}
use Rattle.residual_graph.specs.Residual.{number_at}
use Rattle.predecessors.specs.Predecessor.{rank_at}
use Rattle.shortest_paths.specs.Search.{IsReached}
use Rattle.shortest_paths.proofs.search.begin_in_excess.Given as goal

abbrev pub invariant-loop-v : goal.invariant-loop-v
invariant-loop-v l = record {
  sources : (w : ℕ) → w < l.v → pos 0 <ℤ number_at l.excess w → IsReached l.predecessors w;
  reached : (w : ℕ) → IsReached l.predecessors w → pos 0 <ℤ number_at l.excess w;
  flat : (w : ℕ) → rank_at l.predecessors w ≡ 0;
}
