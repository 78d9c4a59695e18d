use Rattle.std.proofs.Common.{◌≡◌}
use Rattle.two_sided.proofs.front.Front.read_others.Given as goal

abbrev pub invariant-loop-link : goal.invariant-loop-link
invariant-loop-link g l = l.self ≡ l.initial.self
