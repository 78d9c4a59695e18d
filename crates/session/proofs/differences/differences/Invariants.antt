use Rattle.std.proofs.Common.{◌≤◌, length, vec_capacity}
use Rattle.session.proofs.Numbers.{AreListed}
use Rattle.session.proofs.differences.differences.Given as goal

-- the numbers so far are listed, and there is room for all
abbrev pub invariant-loop-number : goal.invariant-loop-number
invariant-loop-number g l = record {
  listed : AreListed l.number-items l.old l.new l.found.items l.number-index;
  room : length l.number-items ≤ vec_capacity l.found;
}
