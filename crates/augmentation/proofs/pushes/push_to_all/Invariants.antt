use Rattle.shortest_paths.specs.Tree.{IsForestOf}
use Rattle.augmentation.specs.Pushes.{HavePushed}
use Rattle.augmentation.proofs.pushes.push_to_all.Given as goal

abbrev pub invariant-loop-target : goal.invariant-loop-target
invariant-loop-target l = record {
  pushed : HavePushed l.graph l.pushes l.initial.flow l.flow l.initial.excess l.excess l.scratch;
  forest : IsForestOf l.graph.rows l.scratch.tree;
}
