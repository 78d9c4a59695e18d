use Rattle.std.proofs.Common.{◌≡◌, map}
use Rattle.std.specs.List.{range_with_len}
use Rattle.c_calls.specs.Arrays.{array_row}
use Rattle.c_calls.proofs.arrays.rows_of.Given as goal

-- the arcs so far
abbrev pub invariant-loop-place : goal.invariant-loop-place
invariant-loop-place l = l.rows.items ≡ map (array_row l.arrays) (range_with_len 0 l.place)
