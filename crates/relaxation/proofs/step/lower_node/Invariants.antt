use Rattle.std.proofs.Common.{◌≡◌}
use Rattle.relaxation.proofs.step.lower_node.Given as goal

abbrev pub invariant-loop-place : goal.invariant-loop-place
invariant-loop-place g l = record { proposal : l.proposal ≡ l.initial.proposal; ring : l.ring ≡ l.initial.ring }
