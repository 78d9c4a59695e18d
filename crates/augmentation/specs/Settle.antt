-- The greatest potentials that certify a flow: the shortest labels.
use Rattle.std.specs.Prelude.{ℤ, List, length}
use Rattle.dimacs_text.specs.declared.problem.ArcRow.{ArcRow}
use Rattle.predecessors.specs.Limits.{label_floor}
use Rattle.residual_graph.specs.Residual.{AreGreatest, ArePotentials, IsReducedCostOptimal}

-- these potentials certify the flow, and are the greatest that do
pub record AreShortest (arcs : List ArcRow) (x q : List ℤ) : Type 0 where
  pub certified : IsReducedCostOptimal arcs x q
  pub within : ArePotentials (length q) label_floor q
  pub greatest : AreGreatest arcs x q
