use Rattle.std.proofs.Common.{◌≡◌}
use Rattle.pseudoflow.proofs.solving.Pseudoflow.push_all.Given as goal

abbrev pub invariant-loop : goal.invariant-loop
invariant-loop g l = l.proposal ≡ l.initial.proposal
