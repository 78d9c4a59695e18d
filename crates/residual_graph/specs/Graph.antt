-- The network in the forms that searches read.
use Rattle.std.specs.Prelude.{◌≡◌, ℕ, ◌+◌, List}
use Rattle.dimacs_text.specs.declared.problem.ArcRow.{ArcRow}
use Rattle.network.specs.Instance.{Instance, IsLawful, reduced}

-- what contracts see of a graph: the network, and the arcs of its reduced instance
pub record GraphView : Type 0 where
  pub net : Instance
  pub rows : List ArcRow

-- the rows are the arcs of the reduced instance
pub record AreRowsOf (I : Instance) (rows : List ArcRow) : Type 0 where
  pub lawful : IsLawful I
  pub rows_are : rows ≡ (reduced I).arcs

pub record IsGraph (g : GraphView) : Type 0 where
  pub rows : AreRowsOf g.net g.rows

-- the graph of a network
abbrev pub graph_of : Instance → GraphView
graph_of I = record { net = I; rows = (reduced I).arcs }

-- tables of nodes have an entry for each of its nodes, and entry 0
abbrev pub HasEntries : ℕ → GraphView → Type 0
HasEntries entries g = entries ≡ g.net.nodes + 1
