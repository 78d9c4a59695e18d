use Rattle.std.proofs.Common.{◌≡◌, length}
use Rattle.shortest_paths.specs.Tree.{IsRelabelled}
use Rattle.shortest_paths.proofs.tree.Tree.reach_from.Given as goal

abbrev pub invariant-loop : goal.invariant-loop
invariant-loop l = record {
  sized : length l.self.labels ≡ length l.initial.self.labels;
  marked : IsRelabelled l.initial.self l.self;
}
