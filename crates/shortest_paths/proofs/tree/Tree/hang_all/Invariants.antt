use Rattle.std.proofs.Common.{◌≡◌, length}
use Rattle.shortest_paths.specs.Tree.{IsRelabelled}
use Rattle.shortest_paths.proofs.tree.Tree.hang_all.Given as goal

abbrev pub invariant-loop-i : goal.invariant-loop-i
invariant-loop-i l = record {
  sized : length l.self.labels ≡ length l.residual.potentials.now;
  marked : IsRelabelled l.initial.self l.self;
}
