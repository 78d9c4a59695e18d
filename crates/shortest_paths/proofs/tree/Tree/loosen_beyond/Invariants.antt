use Rattle.std.proofs.Common.{◌≡◌, length}
use Rattle.shortest_paths.specs.Tree.{IsRelabelled}
use Rattle.shortest_paths.proofs.tree.Tree.loosen_beyond.Given as goal

abbrev pub invariant-loop : goal.invariant-loop
invariant-loop l = record {
  sized : length l.self.labels ≡ length l.residual.potentials.now;
  marked : IsRelabelled l.initial.self l.self;
}
