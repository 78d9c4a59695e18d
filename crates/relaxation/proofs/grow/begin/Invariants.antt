use Rattle.std.proofs.Common.{◌≡◌}
use Rattle.relaxation.proofs.grow.begin.Given as goal

abbrev pub invariant-loop-place : goal.invariant-loop-place
invariant-loop-place g l = l.reach ≡ l.initial.reach
