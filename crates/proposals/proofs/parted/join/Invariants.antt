use Rattle.std.proofs.Common.{◌≡◌}
use Rattle.proposals.proofs.parted.join.Given as goal

abbrev pub invariant-loop-k : goal.invariant-loop-k
invariant-loop-k l = l.proposal ≡ l.initial.proposal

abbrev pub invariant-loop-v : goal.invariant-loop-v
invariant-loop-v l = l.proposal ≡ l.initial.proposal
