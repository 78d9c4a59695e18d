use Rattle.shortest_paths.specs.Tree.{IsForestOf}
use Rattle.flow_changes.specs.Push.{left}
use Rattle.augmentation.specs.Pushes.{HavePushed}
use Rattle.augmentation.proofs.pushes.push_all_to.Given as goal

abbrev pub invariant-loop-pushes : goal.invariant-loop-pushes
invariant-loop-pushes l = record {
  pushed : HavePushed l.graph l.pushes l.initial.flow l.flow l.initial.excess l.excess l.scratch;
  forest : IsForestOf l.graph.rows l.scratch.tree;
}

abbrev pub decreases-loop-pushes : goal.decreases-loop-pushes
decreases-loop-pushes l = left l.excess
