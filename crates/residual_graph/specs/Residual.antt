-- Residual arcs of a network under a flow, and potentials that give none of them a reduced cost below 0
-- (Ahuja, Magnanti, Orlin, "Network Flows": residual network, pseudoflow, reduced-cost optimality).
use Rattle.residual_graph.specs.Limits.{potential_floor, cost_limit, flow_limit, entry_limit, row_limit}
use Rattle.std.specs.Prelude.{◌≡◌, ℕ, ◌<◌, ◌≤◌, ℤ, pos, neg_ℤ, ◌-ℤ◌, ◌+ℤ◌, ◌<ℤ◌, ◌≤ℤ◌, List, length, slice_index_or}
use Rattle.dimacs_text.specs.declared.problem.ArcRow.{ArcRow}
use Rattle.network.specs.Flow.{MinCost, AllEndsAreNodes, IsGreatestPotential}
use Rattle.residual_graph.specs.declared.residual.ResidualArc.{ResidualArc}
use Rattle.residual_graph.specs.declared.residual.Way.{Way}
use Rattle.residual_graph.specs.declared.residual.Way.TheVariants.{Forward, Backward}

-- the node from which the residual arc goes
abbrev pub start_of : ArcRow → Way → ℕ
start_of a Forward = a.tail
start_of a Backward = a.head

-- the node to which the residual arc goes
abbrev pub end_of : ArcRow → Way → ℕ
end_of a Forward = a.head
end_of a Backward = a.tail

-- the other way along an arc
abbrev pub other_way : Way → Way
other_way Forward = Backward
other_way Backward = Forward

-- the residual arc along the same arc in the other way
abbrev pub turned : ResidualArc → ResidualArc
turned a = record { arc = a.arc; way = other_way a.way }

-- what a unit of flow along the residual arc costs
abbrev pub cost_of : ArcRow → Way → ℤ
cost_of a Forward = a.cost
cost_of a Backward = neg_ℤ a.cost

-- how much more flow fits along the residual arc
abbrev pub room_of : ArcRow → ℤ → Way → ℤ
room_of a x Forward = a.cap -ℤ x
room_of a x Backward = x -ℤ a.low

abbrev pub row_at : List ArcRow → ℕ → ArcRow
row_at arcs k = slice_index_or arcs k (record { tail = 0; head = 0; low = pos 0; cap = pos 0; cost = pos 0 })

-- the flow of an arc, or the potential of a node
abbrev pub number_at : List ℤ → ℕ → ℤ
number_at xs k = slice_index_or xs k (pos 0)

-- an arc within the limits, between nodes that are there
pub record IsRow (nodes : ℕ) (a : ArcRow) : Type 0 where
  pub tail_in : a.tail < nodes
  pub head_in : a.head < nodes
  pub low_at_least_0 : pos 0 ≤ℤ a.low
  pub low_at_most_cap : a.low ≤ℤ a.cap
  pub cap_in : a.cap ≤ℤ pos flow_limit
  pub cost_low : neg_ℤ (pos cost_limit) ≤ℤ a.cost
  pub cost_high : a.cost ≤ℤ pos cost_limit

-- a flow within the bounds of an arc
pub record IsWithinRow (a : ArcRow) (x : ℤ) : Type 0 where
  pub low_kept : a.low ≤ℤ x
  pub cap_kept : x ≤ℤ a.cap

-- a flow within the bounds of each arc, whatever is left over or lacks at the nodes, in a network of at most 50,000 nodes
-- and at most 200,000 arcs within the limits
pub record IsPseudoflow (nodes : ℕ) (arcs : List ArcRow) (x : List ℤ) : Type 0 where
  pub few_nodes : nodes ≤ entry_limit
  pub few_arcs : length arcs ≤ row_limit
  pub same_length : length x ≡ length arcs
  pub rows : (k : ℕ) → k < length arcs → IsRow nodes (row_at arcs k)
  pub within : (k : ℕ) → k < length arcs → IsWithinRow (row_at arcs k) (number_at x k)

-- the residual arc along arc k is there
pub record IsResidual (arcs : List ArcRow) (x : List ℤ) (k : ℕ) (way : Way) : Type 0 where
  pub is_arc : k < length arcs
  pub has_room : pos 0 <ℤ room_of (row_at arcs k) (number_at x k) way

abbrev pub start_at : List ArcRow → ℕ → Way → ℕ
start_at arcs k way = start_of (row_at arcs k) way

abbrev pub end_at : List ArcRow → ℕ → Way → ℕ
end_at arcs k way = end_of (row_at arcs k) way

abbrev pub cost_at : List ArcRow → ℕ → Way → ℤ
cost_at arcs k way = cost_of (row_at arcs k) way

-- no residual arc has a reduced cost below 0 under a potential of each node
abbrev pub NoneBelowBy : List ArcRow → List ℤ → (ℕ → ℤ) → Type 0
NoneBelowBy arcs x q =
    (k : ℕ) (way : Way) → IsResidual arcs x k way →
    q (end_at arcs k way) ≤ℤ (cost_at arcs k way +ℤ q (start_at arcs k way))

abbrev pub NoneBelow : List ArcRow → List ℤ → List ℤ → Type 0
NoneBelow arcs x p = NoneBelowBy arcs x (number_at p)

-- each potential lies between -floor and 0
pub record ArePotentials (nodes floor : ℕ) (p : List ℤ) : Type 0 where
  pub sized : length p ≡ nodes
  pub at_most_0 : (v : ℕ) → number_at p v ≤ℤ pos 0
  pub at_least : (v : ℕ) → neg_ℤ (pos floor) ≤ℤ number_at p v

-- the reduced-cost optimality conditions hold: a pseudoflow, with potentials down to -3 * 10^17 under which no residual arc
-- has a reduced cost below 0
pub record IsReducedCostOptimal (arcs : List ArcRow) (x p : List ℤ) : Type 0 where
  pub flow : IsPseudoflow (length p) arcs x
  pub potentials : ArePotentials (length p) potential_floor p
  pub none_below : NoneBelow arcs x p

-- a table with an entry for each node, and one in front for no node, holds the greatest potentials that certify a flow, whatever
-- the nodes of these arcs have to send out
abbrev pub AreGreatest : List ArcRow → List ℤ → List ℤ → Type 0
AreGreatest arcs x p = (I : MinCost) → I.arcs ≡ arcs → AllEndsAreNodes I → IsGreatestPotential I x (number_at p)
