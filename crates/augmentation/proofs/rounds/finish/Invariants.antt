use Rattle.flow_changes.specs.Push.{left}
use Rattle.augmentation.specs.Pushes.{HavePushed}
use Rattle.augmentation.proofs.rounds.finish.Given as goal

abbrev pub invariant-loop-target : goal.invariant-loop-target
invariant-loop-target l = HavePushed l.graph l.pushes l.initial.flow l.flow l.initial.excess l.excess l.scratch

abbrev pub decreases-loop-target : goal.decreases-loop-target
decreases-loop-target l = left l.excess
