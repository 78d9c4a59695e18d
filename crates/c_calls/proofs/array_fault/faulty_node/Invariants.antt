use Rattle.std.proofs.Common.{◌≡◌, ◌<◌, ℕ, Ok, pos, slice_index_or}
use Rattle.dimacs_text.specs.declared.problem.TheConstants.{SUPPLY_LIMIT}
use Rattle.c_calls.specs.Arrays.{test_integer}
use Rattle.c_calls.proofs.array_fault.faulty_node.Given as goal

-- no supply so far has a fault
abbrev pub invariant-loop-place : goal.invariant-loop-place
invariant-loop-place l = (i : ℕ) → i < l.place → test_integer SUPPLY_LIMIT (slice_index_or l.supply i (pos 0)) ≡ Ok tt
