use Rattle.std.proofs.Common.{◌≡◌, ℕ, ◌<◌, ◌≤◌}
use Rattle.residual_graph.specs.Residual.{number_at}
use Rattle.predecessors.specs.Predecessor.{predecessor_at}
use Rattle.shortest_paths.specs.Search.{lowered_by}
use Rattle.shortest_paths.proofs.search.lower_reached.Given as goal

abbrev pub invariant-loop-v : goal.invariant-loop-v
invariant-loop-v l = record {
  done : (w : ℕ) → w < l.v → number_at l.potentials w ≡ lowered_by (predecessor_at l.predecessors w).is_open (number_at l.initial.potentials w) l.fall;
  rest : (w : ℕ) → l.v ≤ w → number_at l.potentials w ≡ number_at l.initial.potentials w;
}
