use Rattle.std.proofs.Common.{◌≡◌}
use Rattle.proposals.proofs.solving.solve.Given as goal

abbrev pub invariant-loop-turn : goal.invariant-loop-turn
invariant-loop-turn l = record { proposal : l.proposal ≡ l.initial.proposal; ring : l.ring ≡ l.initial.ring; reach : l.sets.reach ≡ l.initial.sets.reach; search : l.search ≡ l.initial.search }
