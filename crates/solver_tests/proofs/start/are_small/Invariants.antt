use Rattle.std.proofs.Common.{ℕ, ◌<◌, pos, neg_ℤ, ◌≤ℤ◌}
use Rattle.residual_graph.specs.Residual.{number_at}
use Rattle.flow_changes.specs.Limits.{excess_limit}
use Rattle.solver_tests.proofs.start.are_small.Given as goal

abbrev pub invariant-loop-e : goal.invariant-loop-e
invariant-loop-e l = (v : ℕ) → v < l.e-index → (neg_ℤ (pos excess_limit) ≤ℤ number_at l.excess v) × (number_at l.excess v ≤ℤ pos excess_limit)
