-- Searches in order of distance, from settled nodes along residual arcs to the nearest open one
-- (Ahuja, Magnanti, Orlin, "Network Flows": Dijkstra's algorithm, successive shortest paths).
use Rattle.std.specs.Prelude.{◌≡◌, ℕ, ◌+◌, ◌*◌, ◌/◌, ◌<◌, ◌⊎◌, ℤ, pos, neg_ℤ, ◌+ℤ◌, ◌-ℤ◌, ◌<ℤ◌, ◌≤ℤ◌, List, length, Bool, true, false, Option, MatchOption, slice_set}
use Rattle.std.specs.List.{count_by}
use Rattle.containers.specs.declared.queue.Waiting.{Waiting}
use Rattle.containers.specs.Queue.{IsIn, QueueView, entry_at, key_at}
use Rattle.dimacs_text.specs.declared.problem.ArcRow.{ArcRow}
use Rattle.residual_graph.specs.declared.residual.Way.{Way}
use Rattle.residual_graph.specs.Limits.{cost_limit, entry_limit, potential_floor}
use Rattle.residual_graph.specs.Residual.{IsResidual, end_at, number_at, start_at}
use Rattle.residual_graph.specs.Walk.{end_way}
use Rattle.predecessors.specs.declared.predecessor.Predecessor.{Predecessor}
use Rattle.predecessors.specs.Predecessor.{arc_to, predecessor_at, rank_at, reduced_at, root_node, way_to}

-- the search came to node v, or v is open
abbrev pub IsReached : List Predecessor → ℕ → Type 0
IsReached t v = (v < length t) × ((predecessor_at t v).is_open ≡ false)

abbrev pub IsOpen : List Predecessor → ℕ → Type 0
IsOpen t v = (predecessor_at t v).is_open ≡ true

-- how many nodes are open
abbrev pub open_count : List Predecessor → ℕ
open_count t = count_by (λ e. e.is_open) t

-- the search came to v along a residual arc from a node that is one hop nearer to the beginning
pub record IsCameBy (arcs : List ArcRow) (x : List ℤ) (t : List Predecessor) (v k : ℕ) (way : Way) : Type 0 where
  pub residual : IsResidual arcs x k way
  pub ends : end_at arcs k way ≡ v
  pub reached : IsReached t (start_at arcs k way)
  pub deeper : rank_at t v ≡ rank_at t (start_at arcs k way) + 1

-- behind each node that the search reached lies a path of residual arcs
abbrev pub HavePaths : List ArcRow → List ℤ → List Predecessor → Type 0
HavePaths arcs x t = (v : ℕ) → IsReached t v → 0 < rank_at t v → IsCameBy arcs x t v (arc_to t v) (way_to t v)

-- no arc of these paths costs anything under the potentials
abbrev pub AreTight : List ArcRow → List ℤ → List Predecessor → Type 0
AreTight arcs p t = (v : ℕ) → IsReached t v → 0 < rank_at t v → reduced_at arcs p (arc_to t v) (way_to t v) ≡ pos 0

-- paths of residual arcs that cost nothing lead to the nodes that the search reached; none is longer than there are such nodes
pub record IsSearch (arcs : List ArcRow) (x p : List ℤ) (t : List Predecessor) : Type 0 where
  pub sized : length t ≡ length p
  pub ranked : (v : ℕ) → IsReached t v → rank_at t v + open_count t < length t
  pub paths : HavePaths arcs x t
  pub tight : AreTight arcs p t

-- node v hangs by an arc, in this way along it, on a node that is one hop nearer to the beginning; nothing is said of what
-- fits along the arc
pub record IsHung (arcs : List ArcRow) (t : List Predecessor) (v k : ℕ) (way : Way) : Type 0 where
  pub is_arc : k < length arcs
  pub ends : end_at arcs k way ≡ v
  pub reached : IsReached t (start_at arcs k way)
  pub deeper : rank_at t v ≡ rank_at t (start_at arcs k way) + 1

-- so does each node that was reached, but for the roots
abbrev pub AreHung : List ArcRow → List Predecessor → Type 0
AreHung arcs t = (v : ℕ) → IsReached t v → 0 < rank_at t v → IsHung arcs t v (arc_to t v) (way_to t v)

-- a forest of arcs that cost nothing: what a search leaves of its paths once flow was pushed along some of them
pub record IsForest (arcs : List ArcRow) (p : List ℤ) (t : List Predecessor) : Type 0 where
  pub sized : length t ≡ length p
  pub hung : AreHung arcs t
  pub tight : AreTight arcs p t

-- the rank of the node from which the residual arc goes that leaves at an end
abbrev pub rank_before : List ArcRow → List Predecessor → ℕ → ℕ
rank_before arcs t end = rank_at t (start_at arcs (end / 2) (end_way end))

-- how a node is come to along the residual arc that leaves at an end
abbrev pub come_from : List ArcRow → List Predecessor → ℕ → Predecessor
come_from arcs t end = record { end = end; rank = rank_before arcs t end + 1; is_open = false }

-- node v is come to so
abbrev pub come_to : List ArcRow → List Predecessor → ℕ → ℕ → List Predecessor
come_to arcs t v end = slice_set t v (come_from arcs t end)

-- the potential of node v rises
abbrev pub raised : List ℤ → ℕ → ℤ → List ℤ
raised p v rise = slice_set p v (number_at p v +ℤ rise)

-- a residual arc leads from a node that the search reached to an open one
pub record Crosses (arcs : List ArcRow) (x : List ℤ) (t : List Predecessor) (k : ℕ) (way : Way) : Type 0 where
  pub residual : IsResidual arcs x k way
  pub from : IsReached t (start_at arcs k way)
  pub to : IsOpen t (end_at arcs k way)

abbrev pub NoneCrosses : List ArcRow → List ℤ → List Predecessor → Type 0
NoneCrosses arcs x t = (k : ℕ) (way : Way) → Crosses arcs x t k way → ⊥

-- ---- the nodes that wait

-- a node waits by a residual arc that leads from a node that the search reached, at what it costs
pub record IsAlong (arcs : List ArcRow) (x p : List ℤ) (t : List Predecessor) (w : Waiting) (v : ℕ) : Type 0 where
  pub crosses : Crosses arcs x t (w.end / 2) (end_way w.end)
  pub ends : end_at arcs (w.end / 2) (end_way w.end) ≡ v
  pub key_is : w.key ≡ reduced_at arcs p (w.end / 2) (end_way w.end)

-- the node to which a residual arc leads waits, for no more than that costs
abbrev pub IsServed : List ArcRow → List ℤ → QueueView → ℕ → Way → Type 0
IsServed arcs p q k way = IsIn q (end_at arcs k way) × (key_at q.entries (end_at arcs k way) ≤ℤ reduced_at arcs p k way)

-- so it is of each residual arc that leads from a node that the search reached to an open one
abbrev pub AreServed : List ArcRow → List ℤ → List ℤ → List Predecessor → QueueView → Type 0
AreServed arcs x p t q = (k : ℕ) (way : Way) → Crosses arcs x t k way → IsServed arcs p q k way

-- so it is of those from this node
abbrev pub AreServedFrom : List ArcRow → List ℤ → List ℤ → List Predecessor → QueueView → ℕ → Type 0
AreServedFrom arcs x p t q v = (k : ℕ) (way : Way) → start_at arcs k way ≡ v → Crosses arcs x t k way → IsServed arcs p q k way

-- the nodes that waited wait, for no more; others wait by residual arcs
pub record HaveJoined (arcs : List ArcRow) (x p : List ℤ) (t : List Predecessor) (q r : QueueView) : Type 0 where
  pub sized : length r.entries ≡ length q.entries
  pub kept : (v : ℕ) → IsIn q v → IsIn r v × (key_at r.entries v ≤ℤ key_at q.entries v)
  pub entries : (v : ℕ) → IsIn r v → (IsIn q v × (entry_at r.entries v ≡ entry_at q.entries v)) ⊎ IsAlong arcs x p t (entry_at r.entries v) v

-- a potential is no further from 0 than potentials may be
abbrev pub IsWithinFloor : ℤ → Type 0
IsWithinFloor potential = (neg_ℤ (pos potential_floor) ≤ℤ potential) × (potential ≤ℤ pos potential_floor)

-- a potential that falls unless its node is open
abbrev pub lowered_by : Bool → ℤ → ℤ → ℤ
lowered_by true potential fall = potential
lowered_by false potential fall = potential -ℤ fall

-- the potentials p become q: those of the nodes that the search reached fall, all alike
pub record AreLowered (p q : List ℤ) (t : List Predecessor) (fall : ℤ) : Type 0 where
  pub same_length : length q ≡ length p
  pub at_reached : (v : ℕ) → IsReached t v → number_at q v ≡ number_at p v -ℤ fall
  pub at_open : (v : ℕ) → IsOpen t v → number_at q v ≡ number_at p v

-- ---- the search from the nodes in excess

-- it came to all nodes in excess, began at these alone, and came to no node in deficit
pub record IsFromExcess (excess : List ℤ) (t : List Predecessor) : Type 0 where
  pub sources : (v : ℕ) → pos 0 <ℤ number_at excess v → IsReached t v
  pub roots : (v : ℕ) → IsReached t v → rank_at t v ≡ 0 → pos 0 <ℤ number_at excess v
  pub no_deficit : (v : ℕ) → IsReached t v → pos 0 ≤ℤ number_at excess v

-- it began at nodes in excess, and came to this node in deficit
pub record HasFound (arcs : List ArcRow) (x p excess : List ℤ) (t : List Predecessor) (target : ℕ) : Type 0 where
  pub search : IsSearch arcs x p t
  pub roots : (v : ℕ) → IsReached t v → rank_at t v ≡ 0 → pos 0 <ℤ number_at excess v
  pub reached : IsReached t target
  pub deficit : number_at excess target <ℤ pos 0

-- it came to all nodes that those in excess reach, and none is in deficit
pub record IsExhausted (arcs : List ArcRow) (x excess : List ℤ) (t : List Predecessor) : Type 0 where
  pub sized : length t ≡ length excess
  pub from : IsFromExcess excess t
  pub none_crosses : NoneCrosses arcs x t

-- node v is this one, and in deficit
abbrev pub IsDeficitAt : List ℤ → ℕ → ℕ → Type 0
IsDeficitAt excess node v = (v ≡ node) × (number_at excess v <ℤ pos 0)

-- a node in deficit is found, or none can be reached
abbrev pub IsDeficitFound : List ArcRow → List ℤ → List ℤ → List ℤ → List Predecessor → Option ℕ → Type 0
IsDeficitFound arcs x p excess t found = MatchOption found (IsExhausted arcs x excess t) (HasFound arcs x p excess t)

-- ---- the search for the greatest potentials

-- each node waits for as much as its potential lies below 0
pub record AreOffered (p : List ℤ) (q : QueueView) : Type 0 where
  pub sized : length q.entries ≡ length p
  pub all : (v : ℕ) → v < length p → IsIn q v
  pub keys : (v : ℕ) → IsIn q v → key_at q.entries v ≡ neg_ℤ (number_at p v)

-- where its potential stays below 0 by the key with which it waits, node v can be come to along the residual arc by which it waits
pub record MayCome (arcs : List ArcRow) (p : List ℤ) (t : List Predecessor) (v : ℕ) (w : Waiting) : Type 0 where
  pub is_arc : (number_at p v +ℤ w.key) <ℤ pos 0 → w.end / 2 < length arcs
  pub low : (number_at p v +ℤ w.key) <ℤ pos 0 → rank_before arcs t w.end < entry_limit

-- node v is settled: as a root, or where its potential is below 0 along the residual arc that leaves at an end
pub record IsSettledBy (arcs : List ArcRow) (p : List ℤ) (t u : List Predecessor) (v end : ℕ) : Type 0 where
  pub root : pos 0 ≤ℤ number_at p v → u ≡ slice_set t v root_node
  pub along : number_at p v <ℤ pos 0 → u ≡ come_to arcs t v end

-- the nodes at which it began have potential 0, and none falls by more than a path can cost
pub record AreRaised (p : List ℤ) (t : List Predecessor) : Type 0 where
  pub roots : (v : ℕ) → IsReached t v → rank_at t v ≡ 0 → number_at p v ≡ pos 0
  pub at_least : (v : ℕ) → IsReached t v → neg_ℤ (pos (cost_limit * rank_at t v)) ≤ℤ number_at p v
