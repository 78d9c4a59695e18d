use Rattle.std.proofs.Common.{◌≤◌, length, vec_capacity}
use Rattle.session.proofs.Numbers.{AreNumbered}
use Rattle.session.proofs.differences.differing.Given as goal

-- the numbers of the indices so far are there, and there is room for all
abbrev pub invariant-loop-index : goal.invariant-loop-index
invariant-loop-index g l = record {
  numbered : AreNumbered l.first l.indices l.old l.new l.numbers.items l.index-index;
  room : length l.indices ≤ vec_capacity l.numbers;
}
