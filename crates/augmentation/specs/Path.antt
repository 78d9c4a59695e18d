-- The path by which a search came to a node, and what is pushed along it.
use Rattle.std.specs.Prelude.{◌≡◌, ℕ, zero, suc, ℤ, pos, neg_ℤ, ◌<ℤ◌, ◌≤ℤ◌, List, [], ◌∷◌, length}
use Rattle.dimacs_text.specs.declared.problem.ArcRow.{ArcRow}
use Rattle.residual_graph.specs.declared.residual.ResidualArc.{ResidualArc}
use Rattle.residual_graph.specs.Residual.{IsPseudoflow, number_at, start_at}
use Rattle.predecessors.specs.declared.predecessor.Predecessor.{Predecessor}
use Rattle.predecessors.specs.Predecessor.{arc_to, rank_at, way_to}
use Rattle.shortest_paths.specs.Search.{AreHung, HavePaths, IsReached}
use Rattle.tracked.specs.Tracked.{IsWritten, TrackedView}
use Rattle.flow_changes.specs.Push.{HasRoom, IsTransfer, push_along}
use Rattle.augmentation.specs.declared.augment.Path.{Path}

-- the arc by which the search came to v, and the node before v
abbrev pub hop_to : List Predecessor → ℕ → ResidualArc
hop_to s v = record { arc = arc_to s v; way = way_to s v }

abbrev pub before : List ArcRow → List Predecessor → ℕ → ℕ
before arcs s v = start_at arcs (arc_to s v) (way_to s v)

-- d hops by which the search came to v, and then these
abbrev pub hops_before : List ArcRow → List Predecessor → ℕ → ℕ → List ResidualArc → List ResidualArc
hops_before arcs s zero v hops = hops
hops_before arcs s (suc d) v hops = hops_before arcs s d (before arcs s v) (hop_to s v ∷ hops)

-- the path by which the search came to v, and where it begins
abbrev pub path_to : List ArcRow → List Predecessor → ℕ → List ResidualArc
path_to arcs s v = hops_before arcs s (rank_at s v) v []

abbrev pub root_of : List ArcRow → List Predecessor → ℕ → ℕ → ℕ
root_of arcs s zero v = v
root_of arcs s (suc d) v = root_of arcs s d (before arcs s v)

abbrev pub root_to : List ArcRow → List Predecessor → ℕ → ℕ
root_to arcs s v = root_of arcs s (rank_at s v) v

-- y and f are x and e after so much was pushed along the path to t as lies in excess where it begins, and lacks at t
pub record IsAugmented (arcs : List ArcRow) (s : List Predecessor) (t : ℕ) (x e y f : List ℤ) : Type 0 where
  pub amount : ℤ
  pub at_least_1 : pos 1 ≤ℤ amount
  pub in_excess : amount ≤ℤ number_at e (root_to arcs s t)
  pub in_deficit : number_at e t ≤ℤ neg_ℤ amount
  pub room : HasRoom arcs x amount (path_to arcs s t)
  pub flow : y ≡ push_along (path_to arcs s t) amount x
  pub transfer : IsTransfer (root_to arcs s t) t amount e f

-- the search came to the node, and each node of the path hangs on the one before
pub record IsHungPath (path : Path) : Type 0 where
  pub hung : AreHung path.graph.now.rows path.predecessors.now
  pub reached : IsReached path.predecessors.now path.target

-- a flow of the graph, which has a predecessor for each node
abbrev pub IsFlowFor : Path → List ℤ → Type 0
IsFlowFor path x = IsPseudoflow (length path.predecessors.now) path.graph.now.rows x

-- where the path begins
abbrev pub root_on : Path → ℕ
root_on path = root_to path.graph.now.rows path.predecessors.now path.target

-- m more fits on each of its hops
abbrev pub HasRoomOn : Path → List ℤ → ℤ → Type 0
HasRoomOn path x m = HasRoom path.graph.now.rows x m (path_to path.graph.now.rows path.predecessors.now path.target)

-- each arc by which the search came along has room
abbrev pub HavePathsOn : Path → List ℤ → Type 0
HavePathsOn path x = HavePaths path.graph.now.rows x path.predecessors.now

-- so it is, and something lies in excess where the path begins
pub record CanGiveOn (path : Path) (x e : List ℤ) : Type 0 where
  pub paths : HavePathsOn path x
  pub gives : pos 0 <ℤ number_at e (root_on path)

-- m more was moved along the path
pub record IsMovedOn (path : Path) (m : ℤ) (x y : TrackedView ℤ) : Type 0 where
  pub written : IsWritten x y
  pub flow : y.entries ≡ push_along (path_to path.graph.now.rows path.predecessors.now path.target) m x.entries

-- as much as can be was pushed along the path
abbrev pub AugmentsOn : Path → TrackedView ℤ → List ℤ → TrackedView ℤ → List ℤ → Type 0
AugmentsOn path x e y f = IsAugmented path.graph.now.rows path.predecessors.now path.target x.entries e y.entries f
