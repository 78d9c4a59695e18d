use Rattle.flow_changes.specs.Push.{left}
use Rattle.augmentation.specs.Pushes.{HavePushed}
use Rattle.augmentation.proofs.rounds.push_by_levels.Given as goal

abbrev pub invariant-loop-scratch : goal.invariant-loop-scratch
invariant-loop-scratch l = HavePushed l.graph l.pushes l.initial.flow l.flow l.initial.excess l.excess l.scratch

abbrev pub decreases-loop-scratch : goal.decreases-loop-scratch
decreases-loop-scratch l = left l.excess
