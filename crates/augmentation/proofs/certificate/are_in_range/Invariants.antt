use Rattle.std.proofs.Common.{ℕ, ◌<◌, pos, neg_ℤ, ◌≤ℤ◌}
use Rattle.predecessors.specs.Limits.{label_floor}
use Rattle.residual_graph.specs.Residual.{number_at}
use Rattle.augmentation.proofs.certificate.are_in_range.Given as goal

abbrev pub invariant-loop-p : goal.invariant-loop-p
invariant-loop-p l = (v : ℕ) → v < l.p-index → (number_at l.potentials v ≤ℤ pos 0) × (neg_ℤ (pos label_floor) ≤ℤ number_at l.potentials v)
