use Rattle.std.proofs.Common.{◌≡◌}
use Rattle.proposals.proofs.search.Search.serve_nearest.Given as goal

abbrev pub invariant-loop : goal.invariant-loop
invariant-loop g l = record { search : l.self ≡ l.initial.self; proposal : l.proposal ≡ l.initial.proposal }
