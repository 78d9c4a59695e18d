use Rattle.std.proofs.Common.{◌≡◌, ℕ, ◌<◌, false}
use Rattle.residual_graph.specs.Residual.{number_at}
use Rattle.tracked.specs.Marks.{in_set}
use Rattle.augmentation.proofs.near.list_apart.Given as goal

abbrev pub invariant-loop-v : goal.invariant-loop-v
invariant-loop-v l = record {
  same : l.tree ≡ record l.initial.tree { touched = l.tree.touched };
  listed : (u : ℕ) → u < l.v → in_set l.tree.touched u ≡ false → number_at l.potentials u ≡ number_at l.initial.tree.labels u;
}
