use Rattle.std.proofs.Common.{◌≡◌}
use Rattle.proposals.proofs.search.Search.take_all_off.Given as goal

abbrev pub invariant-loop-k : goal.invariant-loop-k
invariant-loop-k g l = record { search : l.self ≡ l.initial.self; proposal : l.proposal ≡ l.initial.proposal }
