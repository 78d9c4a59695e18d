use Rattle.std.proofs.Common.{ℕ, ◌<◌}
use Rattle.residual_graph.specs.Residual.{IsRow, row_at}
use Rattle.solver_tests.proofs.start.are_rows.Given as goal

abbrev pub invariant-loop-k : goal.invariant-loop-k
invariant-loop-k l = (j : ℕ) → j < l.k → IsRow l.entries (row_at l.rows j)
