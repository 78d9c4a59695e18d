use Rattle.std.proofs.Common.{◌≡◌, ℕ, ◌<◌}
use Rattle.residual_graph.specs.Residual.{number_at}
use Rattle.tracked.specs.Tracked.{IsWritten}
use Rattle.augmentation.proofs.potentials.write_all.Given as goal

abbrev pub invariant-loop-v : goal.invariant-loop-v
invariant-loop-v l = record {
  written : IsWritten l.initial.table l.table;
  same : (u : ℕ) → u < l.v → number_at l.table.entries u ≡ number_at l.numbers u;
}
