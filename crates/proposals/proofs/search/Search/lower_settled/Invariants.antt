use Rattle.std.proofs.Common.{◌≡◌}
use Rattle.proposals.proofs.search.Search.lower_settled.Given as goal

abbrev pub invariant-loop-v : goal.invariant-loop-v
invariant-loop-v g l = l.proposal ≡ l.initial.proposal
