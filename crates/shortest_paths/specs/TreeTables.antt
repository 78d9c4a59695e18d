-- The tables of a tree of labels.
use Rattle.std.specs.Prelude.{◌≡◌, ◌≤◌, length}
use Rattle.residual_graph.specs.Limits.{row_limit}
use Rattle.shortest_paths.specs.declared.tree.Tree.TheInside.{Inside}

-- each table of nodes has as many entries as there are labels
pub record AreTables (t : Inside) : Type 0 where
  pub predecessors_sized : length t.predecessors.items ≡ length t.labels.items
  pub touched_sized : length t.touched ≡ length t.labels.items
  pub beside_sized : length t.beside ≡ length t.labels.items
  pub frontier_sized : t.frontier ≡ length t.labels.items
  pub few : length t.labels.items ≤ row_limit
