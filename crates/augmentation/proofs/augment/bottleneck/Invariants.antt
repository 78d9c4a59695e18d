use Rattle.std.proofs.Common.{◌≡◌, List, pos, ◌≤ℤ◌}
use Rattle.residual_graph.specs.declared.residual.ResidualArc.{ResidualArc}
use Rattle.predecessors.specs.Predecessor.{rank_at}
use Rattle.shortest_paths.specs.Search.{HavePaths, IsReached}
use Rattle.flow_changes.specs.Push.{HasRoom}
use Rattle.augmentation.specs.Path.{hops_before, path_to, root_to}
use Rattle.augmentation.proofs.augment.bottleneck.Given as goal

abbrev pub invariant-loop-node : goal.invariant-loop-node
invariant-loop-node l = record {
  reached : IsReached l.path.predecessors.now l.node;
  at_least_0 : pos 0 ≤ℤ l.room;
  some : HavePaths l.path.graph.now.rows l.flow l.path.predecessors.now → pos 1 ≤ℤ l.room;
  at_most : l.room ≤ℤ l.limit;
  root : root_to l.path.graph.now.rows l.path.predecessors.now l.node ≡ root_to l.path.graph.now.rows l.path.predecessors.now l.path.target;
  room : (hops : List ResidualArc) × (hops_before l.path.graph.now.rows l.path.predecessors.now (rank_at l.path.predecessors.now l.node) l.node hops ≡ path_to l.path.graph.now.rows l.path.predecessors.now l.path.target) × HasRoom l.path.graph.now.rows l.flow l.room hops;
}

abbrev pub decreases-loop-node : goal.decreases-loop-node
decreases-loop-node l = rank_at l.path.predecessors.now l.node
