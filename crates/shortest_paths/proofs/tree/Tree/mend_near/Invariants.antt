use Rattle.std.proofs.Common.{◌≡◌, length}
use Rattle.shortest_paths.specs.Tree.{IsRelabelled}
use Rattle.shortest_paths.proofs.tree.Tree.mend_near.Given as goal

abbrev pub invariant-loop-i : goal.invariant-loop-i
invariant-loop-i l = record {
  sized : length l.self.labels ≡ length l.residual.potentials.now;
  marked : IsRelabelled l.initial.self l.self;
}

abbrev pub invariant-loop-i-2 : goal.invariant-loop-i-2
invariant-loop-i-2 l = record {
  sized : length l.self.labels ≡ length l.residual.potentials.now;
  marked : IsRelabelled l.initial.self l.self;
}
