use Rattle.std.proofs.Common.{ℤ}
use Rattle.shortest_paths.specs.Search.{open_count}
use Rattle.shortest_paths.proofs.StepLemmas.{IsRising, IsUnderway}
use Rattle.shortest_paths.proofs.tree.Tree.search_labels.Given as goal

abbrev pub invariant-loop-node : goal.invariant-loop-node
invariant-loop-node l = record {
  distance : ℤ;
  underway : IsUnderway l.graph.rows l.flow l.potentials l.predecessors l.queue distance;
  rising : IsRising l.graph.rows l.flow l.potentials l.predecessors l.queue distance;
}

abbrev pub decreases-loop-node : goal.decreases-loop-node
decreases-loop-node l = open_count l.predecessors
