use Rattle.std.proofs.Common.{◌≡◌}
use Rattle.two_sided.proofs.between.begin_all.Given as goal

abbrev pub invariant-loop-v : goal.invariant-loop-v
invariant-loop-v g l = l.front ≡ l.initial.front
