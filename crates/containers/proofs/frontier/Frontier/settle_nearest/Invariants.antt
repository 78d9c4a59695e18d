use Rattle.std.proofs.Common.{◌≡◌}
use Rattle.containers.proofs.frontier.Frontier.settle_nearest.Given as goal

abbrev pub invariant-loop : goal.invariant-loop
invariant-loop l = l.self ≡ l.initial.self
