use Rattle.std.proofs.Common.{◌≡◌}
use Rattle.pseudoflow.proofs.solving.fill_all.Given as goal

abbrev pub invariant-loop-v : goal.invariant-loop-v
invariant-loop-v g l = l.proposal ≡ l.initial.proposal
