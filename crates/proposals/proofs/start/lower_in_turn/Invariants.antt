use Rattle.std.proofs.Common.{◌≡◌}
use Rattle.proposals.proofs.start.lower_in_turn.Given as goal

abbrev pub invariant-loop : goal.invariant-loop
invariant-loop l = l.proposal ≡ l.initial.proposal

abbrev pub invariant-loop-v : goal.invariant-loop-v
invariant-loop-v l = l.proposal ≡ l.initial.proposal
