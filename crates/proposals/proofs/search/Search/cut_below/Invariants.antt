use Rattle.std.proofs.Common.{◌≡◌}
use Rattle.proposals.proofs.search.Search.cut_below.Given as goal

abbrev pub invariant-loop : goal.invariant-loop
invariant-loop l = l.self ≡ l.initial.self
