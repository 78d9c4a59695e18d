use Rattle.std.proofs.Common.{◌≡◌}
use Rattle.two_sided.proofs.between.meet.Given as goal

abbrev pub invariant-loop : goal.invariant-loop
invariant-loop l = record { ahead : l.ahead ≡ l.initial.ahead; behind : l.behind ≡ l.initial.behind }
