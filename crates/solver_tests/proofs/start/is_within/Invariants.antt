use Rattle.std.proofs.Common.{ℕ, ◌<◌}
use Rattle.residual_graph.specs.Residual.{IsWithinRow, number_at, row_at}
use Rattle.solver_tests.proofs.start.is_within.Given as goal

abbrev pub invariant-loop-k : goal.invariant-loop-k
invariant-loop-k l = (j : ℕ) → j < l.k → IsWithinRow (row_at l.rows j) (number_at l.flow j)
