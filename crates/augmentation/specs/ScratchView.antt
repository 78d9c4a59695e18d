-- What contracts see of the tables that searches write in.
use Rattle.std.specs.Prelude.{Bool, IsTrue, List, ℤ}
use Rattle.residual_graph.specs.Graph.{GraphView}
use Rattle.residual_graph.specs.declared.side.Side.TheVariants.{Ahead}
use Rattle.shortest_paths.specs.Tree.{TreeView}
use Rattle.tracked.specs.Tracked.{TrackedView}
use Rattle.cuts.specs.Cut.{AreOnSide}

-- the nodes that were marked last, and the tree of labels
pub record ScratchView : Type 0 where
  pub marks : List Bool
  pub tree : TreeView

-- where it is told that the scratch marks the nodes in excess and all that they reach, it does
abbrev pub TellsMarks : Bool → GraphView → TrackedView ℤ → List ℤ → ScratchView → Type 0
TellsMarks told g flow e s = IsTrue told → AreOnSide Ahead g.rows flow.entries e s.marks
