use Rattle.std.proofs.Common.{◌≡◌}
use Rattle.two_sided.proofs.between.draw_along.Given as goal

abbrev pub invariant-loop-place : goal.invariant-loop-place
invariant-loop-place g l = l.proposal ≡ l.initial.proposal
