use Rattle.std.proofs.Common.{◌≡◌, ◌<◌}
use Rattle.proposals.proofs.search.Search.serve.Given as goal

abbrev pub invariant-loop : goal.invariant-loop
invariant-loop g l = record { search : l.self ≡ l.initial.self; proposal : l.proposal ≡ l.initial.proposal; node : l.u < l.self }

abbrev pub invariant-loop-2 : goal.invariant-loop-2
invariant-loop-2 g l = record { search : l.self ≡ l.initial.self; proposal : l.proposal ≡ l.initial.proposal; node : l.u < l.self }
