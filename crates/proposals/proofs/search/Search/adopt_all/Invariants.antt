use Rattle.std.proofs.Common.{◌≡◌}
use Rattle.proposals.proofs.search.Search.adopt_all.Given as goal

abbrev pub invariant-loop : goal.invariant-loop
invariant-loop g l = l.self ≡ l.initial.self
