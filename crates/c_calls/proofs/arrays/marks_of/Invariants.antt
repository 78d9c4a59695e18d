use Rattle.std.proofs.Common.{◌≡◌, map}
use Rattle.std.specs.List.{range_with_len}
use Rattle.c_calls.specs.Arrays.{mark_at}
use Rattle.c_calls.proofs.arrays.marks_of.Given as goal

-- the marks so far
abbrev pub invariant-loop-place : goal.invariant-loop-place
invariant-loop-place l = l.marks.items ≡ map (mark_at l.supply) (range_with_len 0 l.place)
