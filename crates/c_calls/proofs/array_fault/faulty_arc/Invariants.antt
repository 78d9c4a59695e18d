use Rattle.std.proofs.Common.{◌≡◌, ◌<◌, ℕ, Ok, length}
use Rattle.c_calls.specs.Arrays.{array_row, test_row}
use Rattle.c_calls.proofs.array_fault.faulty_arc.Given as goal

-- no arc so far has a fault
abbrev pub invariant-loop-place : goal.invariant-loop-place
invariant-loop-place l = (i : ℕ) → i < l.place → test_row (length l.arrays.supply.now) (array_row l.arrays i) ≡ Ok tt
