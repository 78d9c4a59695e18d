-- Minimum-cost flows: legal and best flows, certifying potentials and breaches, in the terms of the textbook
-- (Ahuja, Magnanti, Orlin, "Network Flows": flow balance and bounds, reduced-cost optimality, feasibility cuts).
-- Nodes are the numbers 1 to `nodes`. A flow is a list with one whole number an arc. A set of nodes is a test.
use Rattle.std.specs.Prelude.{◌≡◌, ℕ, zero, suc, ◌≤◌, ◌==◌, ℤ, pos, negsuc, ◌+ℤ◌, ◌-ℤ◌, ◌*ℤ◌, ◌≤ℤ◌, ◌<ℤ◌, ◌⊎◌, Bool, true, not, ◌&&◌, if◌then◌else◌, List, [], ◌∷◌}
use Rattle.std.specs.List.{AllZip, AllByRecursion}
use Rattle.dimacs_text.specs.declared.problem.ArcRow.{ArcRow}
use Rattle.network.specs.declared.TheConstants.{LEAST_POTENTIAL}

-- ---- sums

-- the sum of a number over the arcs
abbrev pub arcs_sum : (ArcRow → ℤ) → List ArcRow → ℤ
arcs_sum f [] = pos 0
arcs_sum f (arc ∷ arcs) = f arc +ℤ arcs_sum f arcs

-- the sum of a number over the arcs, each with its flow
abbrev pub flow_sum : (ArcRow → ℤ → ℤ) → List ArcRow → List ℤ → ℤ
flow_sum f (arc ∷ arcs) (x ∷ flow) = f arc x +ℤ flow_sum f arcs flow
flow_sum f (arc ∷ arcs) [] = pos 0
flow_sum f [] flow = pos 0

-- the sum of a number over the nodes 1 to n
abbrev pub nodes_sum : ℕ → (ℕ → ℤ) → ℤ
nodes_sum zero f = pos 0
nodes_sum (suc n) f = nodes_sum n f +ℤ f (suc n)

-- ---- flows

-- an instance of the minimum-cost flow problem
pub record MinCost : Type 0 where
  pub nodes : ℕ
  pub supply : ℕ → ℤ
  pub arcs : List ArcRow

abbrev pub IsNode : MinCost → ℕ → Type 0
IsNode I v = (1 ≤ v) × (v ≤ I.nodes)

-- both ends of each arc are nodes
abbrev pub AllEndsAreNodes : MinCost → Type 0
AllEndsAreNodes I = AllByRecursion (λ arc. IsNode I arc.tail × IsNode I arc.head) I.arcs

-- the flow on arcs out of a node, and on arcs into it
abbrev pub outflow : List ArcRow → List ℤ → ℕ → ℤ
outflow arcs flow v = flow_sum (λ arc x. if arc.tail == v then x else pos 0) arcs flow

abbrev pub inflow : List ArcRow → List ℤ → ℕ → ℤ
inflow arcs flow v = flow_sum (λ arc x. if arc.head == v then x else pos 0) arcs flow

-- what a node sends out in all; a self-loop adds 0
abbrev pub net : List ArcRow → List ℤ → ℕ → ℤ
net arcs flow v = outflow arcs flow v -ℤ inflow arcs flow v

abbrev pub IsWithinBounds : ArcRow → ℤ → Type 0
IsWithinBounds arc x = (arc.low ≤ℤ x) × (x ≤ℤ arc.cap)

-- one flow an arc, each within its bounds
abbrev pub AllWithinBounds : List ArcRow → List ℤ → Type 0
AllWithinBounds = AllZip IsWithinBounds

-- every node sends out its supply
abbrev pub IsConserved : MinCost → List ℤ → Type 0
IsConserved I flow = (v : ℕ) → IsNode I v → net I.arcs flow v ≡ I.supply v

pub record IsLegalFlow (I : MinCost) (flow : List ℤ) : Type 0 where
  pub bounds : AllWithinBounds I.arcs flow
  pub conserved : IsConserved I flow

-- the cost of a flow
abbrev pub total_cost : List ArcRow → List ℤ → ℤ
total_cost = flow_sum (λ arc x. arc.cost *ℤ x)

-- a legal flow, and no legal flow costs less
pub record IsLeastCostFlow (I : MinCost) (flow : List ℤ) : Type 0 where
  pub legal : IsLegalFlow I flow
  pub least : (other : List ℤ) → IsLegalFlow I other → total_cost I.arcs flow ≤ℤ total_cost I.arcs other

-- ---- certifying potentials

-- the potentials have the opposite sign of the book's: the cost of an arc and its tail's potential, less its head's
abbrev pub reduced_cost : (ℕ → ℤ) → ArcRow → ℤ
reduced_cost potential arc = arc.cost +ℤ potential arc.tail -ℤ potential arc.head

-- an arc of positive reduced cost carries its low, one of negative reduced cost its cap
pub record FollowsSign (potential : ℕ → ℤ) (arc : ArcRow) (x : ℤ) : Type 0 where
  pub dear : pos 0 <ℤ reduced_cost potential arc → x ≡ arc.low
  pub cheap : reduced_cost potential arc <ℤ pos 0 → x ≡ arc.cap

-- the range of potentials
abbrev pub IsPotential : ℤ → Type 0
IsPotential p = (LEAST_POTENTIAL ≤ℤ p) × (p ≤ℤ pos 0)

-- reduced-cost optimality; supplies are not asked for
pub record IsCertifiedFlow (I : MinCost) (flow : List ℤ) (potential : ℕ → ℤ) : Type 0 where
  pub bounds : AllWithinBounds I.arcs flow
  pub signs : AllZip (FollowsSign potential) I.arcs flow
  pub range : (v : ℕ) → IsNode I v → IsPotential (potential v)

-- ---- breaches

abbrev pub supply_of : MinCost → (ℕ → Bool) → ℤ
supply_of I set = nodes_sum I.nodes (λ v. if set v then I.supply v else pos 0)

-- the arc leads from the one set into the other
abbrev pub crosses : (ℕ → Bool) → (ℕ → Bool) → ArcRow → Bool
crosses from to arc = from arc.tail && to arc.head

abbrev pub outside : (ℕ → Bool) → ℕ → Bool
outside set v = not (set v)

abbrev pub cap_out : MinCost → (ℕ → Bool) → ℤ
cap_out I set = arcs_sum (λ arc. if crosses set (outside set) arc then arc.cap else pos 0) I.arcs

abbrev pub cap_into : MinCost → (ℕ → Bool) → ℤ
cap_into I set = arcs_sum (λ arc. if crosses (outside set) set arc then arc.cap else pos 0) I.arcs

abbrev pub low_out : MinCost → (ℕ → Bool) → ℤ
low_out I set = arcs_sum (λ arc. if crosses set (outside set) arc then arc.low else pos 0) I.arcs

abbrev pub low_into : MinCost → (ℕ → Bool) → ℤ
low_into I set = arcs_sum (λ arc. if crosses (outside set) set arc then arc.low else pos 0) I.arcs

-- what a set has to send out beyond what its arcs can carry off
abbrev pub surplus_of : MinCost → (ℕ → Bool) → ℤ
surplus_of I set = supply_of I set -ℤ cap_out I set +ℤ low_into I set

-- what a set has to send out by its lower bounds beyond what it has and can receive
abbrev pub shortfall_of : MinCost → (ℕ → Bool) → ℤ
shortfall_of I set = low_out I set -ℤ cap_into I set -ℤ supply_of I set

-- a set of nodes whose supply and bounds contradict each other by d
pub record IsViolatedCut (I : MinCost) (set : ℕ → Bool) (d : ℤ) : Type 0 where
  pub positive : pos 0 <ℤ d
  pub value : (d ≡ surplus_of I set) ⊎ (d ≡ shortfall_of I set)

-- ---- excesses

-- what a node still has to send out; negative in a node in deficit
abbrev pub excess : MinCost → List ℤ → ℕ → ℤ
excess I flow v = I.supply v -ℤ net I.arcs flow v

abbrev pub positive_part : ℤ → ℤ
positive_part (pos n) = pos n
positive_part (negsuc n) = pos 0

-- what the nodes in excess still have to send out in all
abbrev pub total_excess : MinCost → List ℤ → ℤ
total_excess I flow = nodes_sum I.nodes (λ v. positive_part (excess I flow v))

-- ---- chosen cuts and potentials

-- of all sets the surplus is greatest, and the set lies in every other of that surplus
pub record IsLeastGreatestSurplus (I : MinCost) (set : ℕ → Bool) (d : ℤ) : Type 0 where
  pub value : surplus_of I set ≡ d
  pub greatest : (other : ℕ → Bool) → surplus_of I other ≤ℤ d
  pub least : (other : ℕ → Bool) → surplus_of I other ≡ d → (v : ℕ) → IsNode I v → set v ≡ true → other v ≡ true

-- the same for the shortfall
pub record IsLeastGreatestShortfall (I : MinCost) (set : ℕ → Bool) (d : ℤ) : Type 0 where
  pub value : shortfall_of I set ≡ d
  pub greatest : (other : ℕ → Bool) → shortfall_of I other ≤ℤ d
  pub least : (other : ℕ → Bool) → shortfall_of I other ≡ d → (v : ℕ) → IsNode I v → set v ≡ true → other v ≡ true

-- the greatest potentials that certify a flow: no others are above them at any node
pub record IsGreatestPotential (I : MinCost) (flow : List ℤ) (potential : ℕ → ℤ) : Type 0 where
  pub none_above : (other : ℕ → ℤ) → IsCertifiedFlow I flow other → (v : ℕ) → IsNode I v → other v ≤ℤ potential v
