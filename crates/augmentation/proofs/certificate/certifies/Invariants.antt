use Rattle.std.proofs.Common.{ℕ, ◌<◌}
use Rattle.residual_graph.specs.Residual.{number_at, row_at}
use Rattle.augmentation.specs.Certificate.{KeepsRow}
use Rattle.augmentation.proofs.certificate.certifies.Given as goal

abbrev pub invariant-loop-k : goal.invariant-loop-k
invariant-loop-k l = (j : ℕ) → j < l.k → KeepsRow (row_at l.graph.rows j) (number_at l.flow j) l.potentials
