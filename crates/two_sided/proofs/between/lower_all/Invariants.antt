use Rattle.std.proofs.Common.{◌≡◌}
use Rattle.two_sided.proofs.between.lower_all.Given as goal

abbrev pub invariant-loop-v : goal.invariant-loop-v
invariant-loop-v g l = l.proposal ≡ l.initial.proposal
