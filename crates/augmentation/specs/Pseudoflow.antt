-- Flows within their bounds, whose nodes may be out of balance (Ahuja, Magnanti, Orlin, "Network Flows": pseudoflows).
use Rattle.std.specs.Prelude.{◌≡◌, ℤ, List, length}
use Rattle.residual_graph.specs.Graph.{GraphView, HasEntries}
use Rattle.residual_graph.specs.Residual.{ArePotentials, IsReducedCostOptimal}
use Rattle.predecessors.specs.Limits.{label_floor}
use Rattle.shortest_paths.specs.Tree.{IsForgotten}
use Rattle.flow_changes.specs.Push.{AreSmall}
use Rattle.augmentation.specs.ScratchView.{ScratchView}
use Rattle.tracked.specs.Tracked.{TrackedView}

-- the potentials p certify the flow x, which leaves the excess e at each node; each number is within its range
pub record IsCertifiedPseudoflow (g : GraphView) (x p e : List ℤ) : Type 0 where
  pub graph : HasEntries (length p) g
  pub certified : IsReducedCostOptimal g.rows x p
  pub excess_in : length e ≡ length p
  pub small : AreSmall e

-- the same, with potentials in the range of labels: a run of pushes may begin
pub record IsReady (g : GraphView) (x p e : List ℤ) : Type 0 where
  pub state : IsCertifiedPseudoflow g x p e
  pub in_range : ArePotentials (length p) label_floor p

-- so it is of a table of flows and the labels of the scratch, of which nothing is held
pub record IsCertifiedIn (g : GraphView) (flow : TrackedView ℤ) (e : List ℤ) (s : ScratchView) : Type 0 where
  pub state : IsCertifiedPseudoflow g flow.entries s.tree.labels e
  pub open state use *
  pub forgotten : IsForgotten s.tree
