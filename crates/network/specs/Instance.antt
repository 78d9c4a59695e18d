-- Instances of the three kinds, legal and best flows of each, and how each is read as a minimum-cost flow.
-- The kinds are those of the network formats of the First DIMACS Implementation Challenge (1991): minimum-cost flow, maximum flow, assignment.
-- The reductions are those of Ahuja, Magnanti, Orlin, "Network Flows": a maximum flow as a circulation with a return arc, an assignment with a unit of supply on each side.
use Rattle.std.specs.Prelude.{◌≡◌, ◌≢◌, ℕ, zero, suc, ◌+◌, ◌*◌, min, map, slice_get, ◌-◌, ◌≤◌, ◌==◌, ℤ, pos, neg_ℤ, ◌*ℤ◌, ◌≤ℤ◌, unsigned_abs, ◌⊎◌, Bool, true, false, ◌||◌, if◌then◌else◌, Option, Some, None, List, ◌∷◌, length, drop, All, slice_index_or, slice_set}
use Rattle.std.specs.List.{AllZip, range_with_len}
use Rattle.std.specs.Prelude.{⊤}
use Rattle.dimacs_text.specs.declared.problem.ArcRow.{ArcRow}
use Rattle.dimacs_text.specs.declared.problem.Kind.{Kind}
use Rattle.dimacs_text.specs.declared.problem.Kind.TheVariants.{Min, Max, Asn}
use Rattle.dimacs_text.specs.declared.problem.NodeMark.{NodeMark}
use Rattle.dimacs_text.specs.Problem.{is_named, supply_at, source_of, sink_of}
use Rattle.dimacs_text.specs.Reading.{ProblemValue}
use Rattle.dimacs_text.specs.declared.problem.TheConstants.{NODE_LIMIT, ARC_LIMIT, CAP_LIMIT, COST_LIMIT, SUPPLY_LIMIT}
use Rattle.dimacs_text.specs.Lawful.{IsLawfulRow, IsWithin}
use Rattle.network.specs.declared.TheConstants.{RETURN_CAP}
use Rattle.network.specs.Flow.{MinCost, IsNode, flow_sum, net, IsLegalFlow, IsWithinBounds, AllWithinBounds, FollowsSign, total_cost, IsCertifiedFlow, IsViolatedCut}

-- the entry of node v in a list with one entry a node
abbrev pub at_node : List ℤ → ℕ → ℤ
at_node entries v = slice_index_or entries (v - 1) (pos 0)

abbrev pub is_marked : List Bool → ℕ → Bool
is_marked marks v = slice_index_or marks (v - 1) false

-- what is asked for, by the kind of the problem
pub data Demand : Type 0 where
  -- a least-cost flow that sends out each node's supply
  Supplies : List ℤ → Demand
  -- a greatest flow from the source to the sink
  Terminals : ℕ → ℕ → Demand
  -- a cheapest perfect assignment of the marked nodes to the others
  Sides : List Bool → Demand

-- a list of arcs between the nodes 1 to `nodes`, with room for so many
pub record Instance : Type 0 where
  pub nodes : ℕ
  pub demand : Demand
  pub arcs : List ArcRow
  pub room : ℕ

-- the kind of problem that asks for it
abbrev pub kind_of : Demand → Kind
kind_of (Supplies supplies) = Min
kind_of (Terminals source sink) = Max
kind_of (Sides marks) = Asn

-- what is asked for once a node has another supply
abbrev pub with_supply : Demand → ℕ → ℤ → Demand
with_supply (Supplies supplies) v supply = Supplies (slice_set supplies (v - 1) supply)
with_supply (Terminals source sink) v supply = Terminals source sink
with_supply (Sides marks) v supply = Sides marks

-- the arc with this number, counted from 1
abbrev pub arc_at : List ArcRow → ℕ → Option ArcRow
arc_at arcs zero = None
arc_at arcs (suc k) = slice_get arcs k

-- ---- the instance that a problem begins with

-- one entry for each of the nodes 1 to n
abbrev pub by_node : {A : Type 0} → ℕ → (ℕ → A) → List A
by_node n f = map f (range_with_len 1 n)

-- what the node lines give: supplies, source and sink, or the source side
abbrev pub demand_of : Kind → ℕ → List NodeMark → Demand
demand_of Min nodes marks = Supplies (by_node nodes (supply_at marks))
demand_of Max nodes marks = Terminals (source_of marks) (sink_of marks)
demand_of Asn nodes marks = Sides (by_node nodes (λ v. is_named v marks))

-- the problem's arcs in order, and room for so many more, up to the limit
abbrev pub first : ProblemValue → ℕ → Instance
first problem extra = record {
  nodes = problem.nodes;
  demand = demand_of problem.kind problem.nodes problem.marks;
  arcs = problem.arcs;
  room = min ARC_LIMIT (length problem.arcs + extra);
}

-- ---- limits, and what each kind asks of an instance

-- what each kind asks of an arc, beside the limits
abbrev pub ArcFits : Demand → ArcRow → Type 0
ArcFits (Supplies supplies) arc = ⊤
ArcFits (Terminals source sink) arc = (arc.low ≡ pos 0) × (arc.cost ≡ pos 0)
ArcFits (Sides marks) arc =
    (arc.low ≡ pos 0) × ((arc.cap ≡ pos 0) ⊎ (arc.cap ≡ pos 1)) × (is_marked marks arc.tail ≡ true) × (is_marked marks arc.head ≡ false)

abbrev pub DemandFits : ℕ → Demand → Type 0
DemandFits nodes (Supplies supplies) = (length supplies ≡ nodes) × All (IsWithin SUPPLY_LIMIT) supplies
DemandFits nodes (Terminals source sink) = ((1 ≤ source) × (source ≤ nodes)) × ((1 ≤ sink) × (sink ≤ nodes)) × (source ≢ sink)
DemandFits nodes (Sides marks) = length marks ≡ nodes

-- what a flow along an arc costs is within the limits
abbrev pub HasSmallCost : ArcRow → ℤ → Type 0
HasSmallCost arc x = unsigned_abs (arc.cost *ℤ x) ≤ unsigned_abs COST_LIMIT * CAP_LIMIT

-- the limits of the format and what the kind asks for
pub record IsLawful (I : Instance) : Type 0 where
  pub nodes : (1 ≤ I.nodes) × (I.nodes ≤ NODE_LIMIT)
  pub demand : DemandFits I.nodes I.demand
  pub arcs : All (λ arc. IsLawfulRow I.nodes arc × ArcFits I.demand arc) I.arcs
  pub count : length I.arcs ≤ I.room
  pub room : I.room ≤ ARC_LIMIT

-- ---- the reduction to minimum cost

-- it brings the flow from the sink back to the source; no flow exceeds its capacity
abbrev pub return_arc : ℕ → ℕ → ArcRow
return_arc source sink = record { tail = sink; head = source; low = pos 0; cap = RETURN_CAP; cost = neg_ℤ (pos 1) }

abbrev pub return_arc_of : Demand → Option ArcRow
return_arc_of (Supplies supplies) = None
return_arc_of (Terminals source sink) = Some (return_arc source sink)
return_arc_of (Sides marks) = None

abbrev pub reduced_supply : Demand → ℕ → ℤ
reduced_supply (Supplies supplies) v = at_node supplies v
reduced_supply (Terminals source sink) v = pos 0
reduced_supply (Sides marks) v = if is_marked marks v then pos 1 else neg_ℤ (pos 1)

abbrev pub reduced_arcs : Demand → List ArcRow → List ArcRow
reduced_arcs (Supplies supplies) arcs = arcs
reduced_arcs (Terminals source sink) arcs = return_arc source sink ∷ arcs
reduced_arcs (Sides marks) arcs = arcs

abbrev pub reduced : Instance → MinCost
reduced I = record { nodes = I.nodes; supply = reduced_supply I.demand; arcs = reduced_arcs I.demand I.arcs }

-- the return arc carries what the source sends out
abbrev pub reduced_flow_by : Demand → List ArcRow → List ℤ → List ℤ
reduced_flow_by (Supplies supplies) arcs flow = flow
reduced_flow_by (Terminals source sink) arcs flow = net arcs flow source ∷ flow
reduced_flow_by (Sides marks) arcs flow = flow

abbrev pub reduced_flow : Instance → List ℤ → List ℤ
reduced_flow I flow = reduced_flow_by I.demand I.arcs flow

-- the flows of the numbered arcs
abbrev pub numbered_flow : Demand → List ℤ → List ℤ
numbered_flow (Supplies supplies) flow = flow
numbered_flow (Terminals source sink) flow = drop 1 flow
numbered_flow (Sides marks) flow = flow

-- ---- legal and best flows of each kind

-- an arc is chosen or not, and a closed arc is not
abbrev pub IsChoice : ArcRow → ℤ → Type 0
IsChoice arc x = (x ≡ pos 0) ⊎ (x ≡ pos 1) × (arc.cap ≡ pos 1)

-- how many chosen arcs have the node as an end
abbrev pub chosen_at : List ArcRow → List ℤ → ℕ → ℤ
chosen_at arcs flow v = flow_sum (λ arc x. if (arc.tail == v) || (arc.head == v) then x else pos 0) arcs flow

abbrev pub IsLegalBy : Demand → Instance → List ℤ → Type 0
IsLegalBy (Supplies supplies) I flow = IsLegalFlow (reduced I) flow
IsLegalBy (Terminals source sink) I flow =
    AllWithinBounds I.arcs flow × ((v : ℕ) → IsNode (reduced I) v → v ≢ source → v ≢ sink → net I.arcs flow v ≡ pos 0)
IsLegalBy (Sides marks) I flow =
    AllZip IsChoice I.arcs flow × ((v : ℕ) → IsNode (reduced I) v → chosen_at I.arcs flow v ≡ pos 1)

abbrev pub IsLegal : Instance → List ℤ → Type 0
IsLegal I flow = IsLegalBy I.demand I flow

-- the cost, or what the source sends out
abbrev pub worth_by : Demand → List ArcRow → List ℤ → ℤ
worth_by (Supplies supplies) arcs flow = total_cost arcs flow
worth_by (Terminals source sink) arcs flow = net arcs flow source
worth_by (Sides marks) arcs flow = total_cost arcs flow

abbrev pub worth : Instance → List ℤ → ℤ
worth I flow = worth_by I.demand I.arcs flow

-- the one worth is as good as the other: a cost no greater, or a flow value no smaller
abbrev pub IsAsGood : Demand → ℤ → ℤ → Type 0
IsAsGood (Supplies supplies) a b = a ≤ℤ b
IsAsGood (Terminals source sink) a b = b ≤ℤ a
IsAsGood (Sides marks) a b = a ≤ℤ b

-- a legal flow, and as good as each legal flow
pub record IsBest (I : Instance) (flow : List ℤ) : Type 0 where
  pub legal : IsLegal I flow
  pub best : (other : List ℤ) → IsLegal I other → IsAsGood I.demand (worth I flow) (worth I other)

abbrev pub IsCertified : Instance → List ℤ → (ℕ → ℤ) → Type 0
IsCertified I flow potential = IsCertifiedFlow (reduced I) (reduced_flow I flow) potential

abbrev pub IsBreach : Instance → (ℕ → Bool) → ℤ → Type 0
IsBreach I set d = IsViolatedCut (reduced I) set d

-- the slices have one entry an arc and one a node, the flow is legal, the value its worth, and the potentials certify it
pub record IsBestAnswer (I : Instance) (flow potentials : List ℤ) (value : ℤ) : Type 0 where
  pub one_an_arc : length flow ≡ length I.arcs
  pub one_a_node : length potentials ≡ I.nodes
  pub legal : IsLegal I flow
  pub value_is : value ≡ worth I flow
  pub certified : IsCertified I flow (at_node potentials)

-- the slice has one entry a node, and the set and the number are a breach
pub record IsCutAnswer (I : Instance) (cut : List Bool) (short : ℤ) : Type 0 where
  pub one_a_node : length cut ≡ I.nodes
  pub breach : IsBreach I (is_marked cut) short

-- ---- parts of the test of an answer

-- a node whose net is fixed: all but source and sink
abbrev pub IsInner : Demand → ℕ → Type 0
IsInner (Supplies supplies) v = ⊤
IsInner (Terminals source sink) v = (v ≢ source) × (v ≢ sink)
IsInner (Sides marks) v = ⊤

-- each inner node sends out its supply
abbrev pub IsBalancedAt : Instance → List ℤ → ℕ → Type 0
IsBalancedAt I flow v = IsInner I.demand v → net I.arcs flow v ≡ reduced_supply I.demand v

abbrev pub IsBalanced : Instance → List ℤ → Type 0
IsBalanced I flow = (v : ℕ) → IsNode (reduced I) v → IsBalancedAt I flow v

-- the return arc, where there is one, keeps its bounds and the sign rule
abbrev pub IsReturnCertified : Demand → List ArcRow → List ℤ → (ℕ → ℤ) → Type 0
IsReturnCertified (Supplies supplies) arcs flow potential = ⊤
IsReturnCertified (Terminals source sink) arcs flow potential =
    IsWithinBounds (return_arc source sink) (net arcs flow source) × FollowsSign potential (return_arc source sink) (net arcs flow source)
IsReturnCertified (Sides marks) arcs flow potential = ⊤
