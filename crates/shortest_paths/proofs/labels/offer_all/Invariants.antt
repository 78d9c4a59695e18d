use Rattle.std.proofs.Common.{◌≡◌, ℕ, ◌<◌, ◌≤◌, length, neg_ℤ}
use Rattle.containers.specs.Queue.{IsIn, key_at}
use Rattle.residual_graph.specs.Residual.{number_at}
use Rattle.shortest_paths.proofs.labels.offer_all.Given as goal

abbrev pub invariant-loop-v : goal.invariant-loop-v
invariant-loop-v l = record {
  sized : length l.queue.entries ≡ length l.potentials;
  all : (u : ℕ) → u < l.v → IsIn l.queue u;
  none : (u : ℕ) → l.v ≤ u → IsIn l.queue u → ⊥;
  keys : (u : ℕ) → IsIn l.queue u → key_at l.queue.entries u ≡ neg_ℤ (number_at l.potentials u);
}
