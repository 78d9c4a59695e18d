use Rattle.std.proofs.Common.{◌≡◌, List}
use Rattle.residual_graph.specs.declared.residual.ResidualArc.{ResidualArc}
use Rattle.predecessors.specs.Predecessor.{rank_at}
use Rattle.augmentation.specs.Path.{hops_before, path_to}
use Rattle.flow_changes.specs.Push.{push_along}
use Rattle.tracked.specs.Tracked.{IsWritten}
use Rattle.augmentation.proofs.PathLemmas.{IsOnward}
use Rattle.augmentation.proofs.augment.shift.Given as goal

abbrev pub invariant-loop-node : goal.invariant-loop-node
invariant-loop-node l = record {
  written : IsWritten l.initial.flow l.flow;
  hops : (hops : List ResidualArc) × (hops_before l.path.graph.now.rows l.path.predecessors.now (rank_at l.path.predecessors.now l.node) l.node hops ≡ path_to l.path.graph.now.rows l.path.predecessors.now l.path.target)
      × IsOnward l.path.graph.now.rows l.path.predecessors.now l.path.target l.node hops × (l.flow.entries ≡ push_along hops l.amount l.initial.flow.entries);
}

abbrev pub decreases-loop-node : goal.decreases-loop-node
decreases-loop-node l = rank_at l.path.predecessors.now l.node
