-- The parts of a record in their normal form, and what they and an instance exchange.
use Rattle.std.specs.Prelude.{◌≡◌, ℕ, ◌+◌, ◌-◌, ◌<◌, ◌≤◌, ◌⊎◌, ℤ, pos, List, [], ◌∷◌, ◌++◌, length, All, slice_set, slice_index_or}
use Rattle.std.proofs.Math.ListN.{replicate}
use Rattle.dimacs_text.specs.declared.problem.ArcRow.{ArcRow}
use Rattle.dimacs_text.specs.declared.problem.Kind.TheVariants.{Min}
use Rattle.dimacs_text.specs.declared.problem.TheConstants.{ARC_LIMIT, SUPPLY_LIMIT}
use Rattle.dimacs_lines.specs.Fields.{IsNode}
use Rattle.dimacs_text.specs.Lawful.{IsWithin}
use Rattle.network.specs.Instance.{Demand, Supplies, Terminals, Sides, Instance, kind_of, numbered_flow, with_supply}
use Rattle.flow_solver.specs.Moment.{Moment}
use Rattle.flow_solver.specs.TablesView.{IsFlowValue, IsRowOf, HasEnds, supplies_in}
use Rattle.flow_solver.specs.declared.part.Part.{Part}
use Rattle.flow_solver.specs.declared.part.Part.TheVariants.{Arc, Supply, Last, Gone}
use Rattle.session.specs.Places.{exchanged, taken, PlacesFit, ended, end_of, changed}

-- ---- the normal form

-- what the parts name: nodes and arcs with their values, the arcs that come, and how many arcs go
pub record Named : Type 0 where
  pub supplies : List (ℕ × ℤ)
  pub rows : List (ℕ × ArcRow)
  pub come_rows : List ArcRow
  pub come_flows : List ℤ
  pub go : ℕ

abbrev pub nothing_named : Named
nothing_named = record { supplies = []; rows = []; come_rows = []; come_flows = []; go = 0 }

abbrev pub and_named : Part → Named → Named
and_named (Arc k row) N = record N { rows = (k, row) ∷ N.rows }
and_named (Supply id value) N = record N { supplies = (id, value) ∷ N.supplies }
and_named Last N = record N { go = N.go + 1 }
and_named (Gone row flow) N = record N { come_rows = row ∷ N.come_rows; come_flows = flow ∷ N.come_flows }

abbrev pub named : List Part → Named
named [] = nothing_named
named (p ∷ ps) = and_named p (named ps)

abbrev pub supply_parts : List (ℕ × ℤ) → List Part
supply_parts [] = []
supply_parts (p ∷ places) = Supply p.0 p.1 ∷ supply_parts places

abbrev pub arc_parts : List (ℕ × ArcRow) → List Part
arc_parts [] = []
arc_parts (p ∷ places) = Arc p.0 p.1 ∷ arc_parts places

abbrev pub gone_parts : List ArcRow → List ℤ → List Part
gone_parts [] flows = []
gone_parts (row ∷ rows) [] = []
gone_parts (row ∷ rows) (flow ∷ flows) = Gone row flow ∷ gone_parts rows flows

-- the nodes, then the arcs, then the arcs that come and those that go
abbrev pub listed : Named → List Part
listed N = supply_parts N.supplies ++ (arc_parts N.rows ++ (gone_parts N.come_rows N.come_flows ++ replicate N.go Last))

-- ---- the exchange

-- the flow of each arc of a moment, in the order of the arcs
abbrev pub flow_of : Moment → List ℤ
flow_of m = numbered_flow m.instance.demand m.flow

abbrev pub no_row : ArcRow
no_row = record { tail = 0; head = 0; low = pos 0; cap = pos 0; cost = pos 0 }

abbrev pub demand_swapped : List (ℕ × ℤ) → Demand → Demand
demand_swapped places (Supplies supplies) = Supplies (exchanged places supplies)
demand_swapped places (Terminals source sink) = Terminals source sink
demand_swapped places (Sides marks) = Sides marks

-- the instance with the values that are named
abbrev pub instance_swapped : Named → Instance → Instance
instance_swapped N I = record I {
  demand = demand_swapped N.supplies I.demand;
  arcs = changed N.rows N.go N.come_rows I.arcs;
}

-- the same places with what the moment has
abbrev pub named_turned : Named → Moment → Named
named_turned N m = record {
  supplies = taken N.supplies (supplies_in m.instance.demand);
  rows = taken N.rows m.instance.arcs;
  come_rows = end_of N.go m.instance.arcs;
  come_flows = end_of N.go (flow_of m);
  go = length N.come_rows;
}

-- the moment with the values that are named; no flow of an arc that stays differs
abbrev pub parts_swapped : Named → Moment → Moment
parts_swapped N m = record m { instance = instance_swapped N m.instance; flow = ended N.go N.come_flows m.flow }

-- ---- what can be exchanged

-- arcs come, or arcs go
abbrev pub IsOneEnd : Named → Type 0
IsOneEnd N = (N.go ≡ 0) ⊎ (N.come_rows ≡ [])

-- the places that are named are there, and their values are within the limits
pub record NamedFit (N : Named) (I : Instance) : Type 0 where
  pub supplies : PlacesFit (IsWithin SUPPLY_LIMIT) (length (supplies_in I.demand)) N.supplies
  pub rows : PlacesFit (IsRowOf I) (length I.arcs - N.go) N.rows
  pub ends : All (λ p. HasEnds I.arcs p.0 p.1) N.rows
  pub one_flow : length N.come_flows ≡ length N.come_rows
  pub come_rows : All (IsRowOf I) N.come_rows
  pub come_flows : All IsFlowValue N.come_flows
  pub go : N.go ≤ length I.arcs
  pub room : length I.arcs + length N.come_rows ≤ I.room
  pub one_end : IsOneEnd N

-- the parts are in their normal form, and can be exchanged with the instance
pub record PartsFit (ps : List Part) (I : Instance) : Type 0 where
  pub normal : ps ≡ listed (named ps)
  pub fit : NamedFit (named ps) I

-- the parts lead from the instance J back to I, which has no arc that J has not
pub record PartsLeadBack (ps : List Part) (I J : Instance) : Type 0 where
  pub fits : PartsFit ps J
  pub back : instance_swapped (named ps) J ≡ I
  pub shared_arcs : length J.arcs - (named ps).go ≡ length I.arcs
  pub no_flows : (named ps).come_flows ≡ []

-- ---- one part after the other

-- the moment once one part is exchanged; arcs that go are still there
abbrev pub put_in : Part → Moment → Moment
put_in (Arc k row) m = record m { instance = record m.instance { arcs = slice_set m.instance.arcs (k - 1) row } }
put_in (Supply id value) m = record m { instance = record m.instance { demand = with_supply m.instance.demand id value } }
put_in Last m = m
put_in (Gone row flow) m = record m { instance = record m.instance { arcs = m.instance.arcs ++ row ∷ [] }; flow = m.flow ++ flow ∷ [] }

-- what is left of one part, where the next arc that goes has this index
abbrev pub left_by : ℕ → Part → Moment → Part
left_by next (Arc k row) m = Arc k (slice_index_or m.instance.arcs (k - 1) row)
left_by next (Supply id value) m = Supply id (slice_index_or (supplies_in m.instance.demand) (id - 1) value)
left_by next Last m = Gone (slice_index_or m.instance.arcs next no_row) (slice_index_or (flow_of m) next (pos 0))
left_by next (Gone row flow) m = Last

abbrev pub next_after : ℕ → Part → ℕ
next_after next (Arc k row) = next
next_after next (Supply id value) = next
next_after next Last = next + 1
next_after next (Gone row flow) = next

-- one part can be exchanged
abbrev pub PartFits : ℕ → Part → Moment → Type 0
PartFits next (Arc k row) m = HasEnds m.instance.arcs k row × IsRowOf m.instance row
PartFits next (Supply id value) m =
    (kind_of m.instance.demand ≡ Min) × IsNode m.instance.nodes id × (id ≤ length (supplies_in m.instance.demand)) × IsWithin SUPPLY_LIMIT value × IsWithin SUPPLY_LIMIT (slice_index_or (supplies_in m.instance.demand) (id - 1) value)
PartFits next Last m = (next < length m.instance.arcs) × (next < length (flow_of m)) × (next < ARC_LIMIT)
PartFits next (Gone row flow) m = (length m.instance.arcs < m.instance.room) × IsRowOf m.instance row × IsFlowValue flow

-- the moment without its last n arcs
abbrev pub cut_off : ℕ → Moment → Moment
cut_off n m = record m { instance = record m.instance { arcs = ended n [] m.instance.arcs }; flow = ended n [] m.flow }
