use Rattle.std.proofs.Common.{rules}
use Rattle.proposals.proofs.search.Search.take_turn.Goals as goal

pub invariant_of-self : goal.invariant_of-self
invariant_of-self g c = search rules

pub returns-clause-kept : goal.returns-clause-kept
returns-clause-kept g c = search rules

pub returns-clause-proposal : goal.returns-clause-proposal
returns-clause-proposal g c = search rules
