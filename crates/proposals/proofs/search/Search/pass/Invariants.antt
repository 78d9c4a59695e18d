use Rattle.std.proofs.Common.{◌≡◌}
use Rattle.proposals.proofs.search.Search.pass.Given as goal

abbrev pub invariant-loop-link : goal.invariant-loop-link
invariant-loop-link l = l.self ≡ l.initial.self
