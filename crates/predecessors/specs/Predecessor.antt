-- How a search came to nodes, or how nodes got labels: by the residual arc from a node of lower rank
-- (Ahuja, Magnanti, Orlin, "Network Flows": shortest path trees, predecessor indices).
use Rattle.std.specs.Prelude.{◌≡◌, ℕ, ◌<◌, ◌/◌, ℤ, pos, neg_ℤ, ◌<ℤ◌, ◌≤ℤ◌, ◌⊎◌, List, length, slice_index_or, true, false}
use Rattle.dimacs_text.specs.declared.problem.ArcRow.{ArcRow}
use Rattle.network.specs.Flow.{reduced_cost}
use Rattle.residual_graph.specs.declared.residual.ResidualArc.{ResidualArc}
use Rattle.residual_graph.specs.declared.residual.Way.{Way}
use Rattle.residual_graph.specs.Residual.{cost_of, end_of, number_at, room_of, row_at, start_of}
use Rattle.residual_graph.specs.Walk.{end_way}
use Rattle.predecessors.specs.declared.predecessor.Predecessor.{Predecessor}

-- a node to which no search came
abbrev pub open_node : Predecessor
open_node = record { end = 0; rank = 0; is_open = true }

-- a node at which a search begins
abbrev pub root_node : Predecessor
root_node = record { end = 0; rank = 0; is_open = false }

-- the residual arc that leaves at an end of an arc
abbrev pub arc_from : ℕ → ResidualArc
arc_from end = record { arc = end / 2; way = end_way end }

abbrev pub predecessor_at : List Predecessor → ℕ → Predecessor
predecessor_at t v = slice_index_or t v (record { end = 0; rank = 0; is_open = false })

abbrev pub rank_at : List Predecessor → ℕ → ℕ
rank_at t v = (predecessor_at t v).rank

-- the arc by which node v was come to, and the way in which the residual arc goes along it
abbrev pub arc_to : List Predecessor → ℕ → ℕ
arc_to t v = (predecessor_at t v).end / 2

abbrev pub way_to : List Predecessor → ℕ → Way
way_to t v = end_way (predecessor_at t v).end

-- each number lies between -bound and bound
pub record AreBounded (bound : ℕ) (p : List ℤ) : Type 0 where
  pub at_most : (v : ℕ) → number_at p v ≤ℤ pos bound
  pub at_least : (v : ℕ) → neg_ℤ (pos bound) ≤ℤ number_at p v

-- an arc that leads as the residual arc in this way along an arc does, at its cost
abbrev pub row_along : ArcRow → Way → ArcRow
row_along a way = record a { tail = start_of a way; head = end_of a way; cost = cost_of a way }

-- the reduced cost of the residual arc in this way along arc k
abbrev pub reduced_at : List ArcRow → List ℤ → ℕ → Way → ℤ
reduced_at arcs p k way = reduced_cost (number_at p) (row_along (row_at arcs k) way)

-- along an arc with this row and this flow, the residual arc that is told leads from a node of lower rank to node v, and its
-- cost is the difference of their labels
pub record ComesAlong (a : ArcRow) (x : ℤ) (q : List ℤ) (t : List Predecessor) (v : ℕ) : Type 0 where
  pub has_room : pos 0 <ℤ room_of a x (way_to t v)
  pub ends : end_of a (way_to t v) ≡ v
  pub lower : rank_at t (start_of a (way_to t v)) < rank_at t v
  pub tight : reduced_cost (number_at q) (row_along a (way_to t v)) ≡ pos 0

-- the label of node v is 0, or comes along the residual arc that is told
abbrev pub IsTracedAt : List ArcRow → List ℤ → List ℤ → List Predecessor → ℕ → Type 0
IsTracedAt arcs x q t v =
    (number_at q v ≡ pos 0) ⊎ ((arc_to t v < length arcs) × ComesAlong (row_at arcs (arc_to t v)) (number_at x (arc_to t v)) q t v)

-- so it is of each node
abbrev pub AllTraced : List ArcRow → List ℤ → List ℤ → List Predecessor → Type 0
AllTraced arcs x q t = (v : ℕ) → v < length q → IsTracedAt arcs x q t v
