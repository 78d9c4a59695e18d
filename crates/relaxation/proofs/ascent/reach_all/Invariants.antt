use Rattle.std.proofs.Common.{◌≡◌}
use Rattle.relaxation.proofs.ascent.reach_all.Given as goal

abbrev pub invariant-loop-v : goal.invariant-loop-v
invariant-loop-v g l = l.reach ≡ l.initial.reach

abbrev pub invariant-loop : goal.invariant-loop
invariant-loop g l = l.reach ≡ l.initial.reach
