use Rattle.std.proofs.Common.{◌<◌}
use Rattle.two_sided.proofs.front.Front.trace_apart.Given as goal

abbrev pub invariant-loop : goal.invariant-loop
invariant-loop l = record { join : l.join < l.self; node : l.u < l.self }
