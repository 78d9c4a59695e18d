-- What searches from the nodes in excess came to.
use Rattle.std.specs.Prelude.{ℕ, ℤ, List, MatchOption, Option}
use Rattle.residual_graph.specs.Graph.{GraphView}
use Rattle.shortest_paths.specs.Search.{HasFound}
use Rattle.tracked.specs.Tracked.{TrackedView}
use Rattle.cuts.specs.Cut.{IsParted}
use Rattle.augmentation.specs.ScratchView.{ScratchView}

-- the last search began at nodes in excess, and came to this node in deficit
abbrev pub HasFoundIn : GraphView → TrackedView ℤ → List ℤ → ScratchView → ℕ → Type 0
HasFoundIn g flow e s target = HasFound g.rows flow.entries s.tree.labels e s.tree.predecessors target

-- it did, or no node in excess reaches a node in deficit
abbrev pub IsFoundOrParted : GraphView → TrackedView ℤ → List ℤ → ScratchView → Option ℕ → Type 0
IsFoundOrParted g flow e s found = MatchOption found (IsParted g.rows flow.entries e) (HasFoundIn g flow e s)
