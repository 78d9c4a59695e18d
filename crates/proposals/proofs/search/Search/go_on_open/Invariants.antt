use Rattle.std.proofs.Common.{◌≡◌}
use Rattle.proposals.proofs.search.Search.go_on_open.Given as goal

abbrev pub invariant-loop : goal.invariant-loop
invariant-loop l = l.self ≡ l.initial.self
