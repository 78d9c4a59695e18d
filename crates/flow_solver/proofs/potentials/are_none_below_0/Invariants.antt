use Rattle.std.proofs.Common.{ℕ, ◌<◌, pos, ◌≤ℤ◌}
use Rattle.residual_graph.specs.Residual.{number_at}
use Rattle.flow_solver.proofs.potentials.are_none_below_0.Given as goal

abbrev pub invariant-loop-potential : goal.invariant-loop-potential
invariant-loop-potential l = (v : ℕ) → v < l.potential-index → pos 0 ≤ℤ number_at l.potentials v
