use Rattle.std.proofs.Common.{◌≡◌}
use Rattle.proposals.proofs.parted.close_cut.Given as goal

abbrev pub invariant-loop-k : goal.invariant-loop-k
invariant-loop-k l = l.proposal ≡ l.initial.proposal
