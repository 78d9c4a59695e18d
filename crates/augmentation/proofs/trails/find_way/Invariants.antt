use Rattle.std.proofs.Common.{◌≡◌}
use Rattle.shortest_paths.specs.Tree.{IsForestOf}
use Rattle.augmentation.proofs.trails.find_way.Given as goal

abbrev pub invariant-loop : goal.invariant-loop
invariant-loop l = record {
  same : l.tree ≡ record l.initial.tree { predecessors = l.tree.predecessors };
  forest : IsForestOf l.on.graph.now.rows l.tree;
}
