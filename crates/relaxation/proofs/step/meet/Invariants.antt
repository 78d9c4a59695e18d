use Rattle.std.proofs.Common.{◌≡◌}
use Rattle.relaxation.proofs.step.meet.Given as goal

abbrev pub invariant-loop-place : goal.invariant-loop-place
invariant-loop-place g l = l.proposal ≡ l.initial.proposal
