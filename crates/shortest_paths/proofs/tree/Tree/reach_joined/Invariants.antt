use Rattle.std.proofs.Common.{◌≡◌, length}
use Rattle.shortest_paths.specs.Tree.{IsRelabelled}
use Rattle.shortest_paths.proofs.tree.Tree.reach_joined.Given as goal

abbrev pub invariant-loop-place : goal.invariant-loop-place
invariant-loop-place l = record {
  sized : length l.self.labels ≡ length l.residual.potentials.now;
  marked : IsRelabelled l.initial.self l.self;
}
