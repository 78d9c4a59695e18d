use Rattle.std.proofs.Common.{◌≡◌}
use Rattle.proposals.proofs.scaling.scale.Given as goal

abbrev pub invariant-loop : goal.invariant-loop
invariant-loop l = record { proposal : l.proposal ≡ l.initial.proposal; search : l.search ≡ l.initial.search }
