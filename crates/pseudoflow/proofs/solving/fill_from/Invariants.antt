use Rattle.std.proofs.Common.{◌≡◌}
use Rattle.pseudoflow.proofs.solving.fill_from.Given as goal

abbrev pub invariant-loop-k : goal.invariant-loop-k
invariant-loop-k g l = l.proposal ≡ l.initial.proposal
