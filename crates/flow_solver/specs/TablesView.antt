-- What contracts see of the tables: the moment that they hold, and after a change the one that stood before it.
use Rattle.std.specs.Prelude.{◌≡◌, ℕ, ◌-◌, ◌≤◌, ℤ, pos, ◌≤ℤ◌, Bool, List, [], ◌∷◌, ◌++◌, length, Option, slice_index_or, slice_set}
use Rattle.dimacs_text.specs.declared.problem.ArcRow.{ArcRow}
use Rattle.dimacs_text.specs.declared.problem.TheConstants.{CAP_LIMIT}
use Rattle.dimacs_text.specs.Lawful.{IsLawfulRow}
use Rattle.network.specs.Instance.{Demand, Supplies, Terminals, Instance, ArcFits}
use Rattle.network.specs.Edited.{with_arc, with_last, with_node_supply}
use Rattle.flow_solver.specs.Moment.{Snapshot, Moment}

pub record TablesView : Type 0 where
  pub moment : Moment
  -- what the last snapshot kept
  pub kept : Snapshot
  pub before : Option Moment

-- a flow within the limits
abbrev pub IsFlowValue : ℤ → Type 0
IsFlowValue x = (pos 0 ≤ℤ x) × (x ≤ℤ pos CAP_LIMIT)

-- an arc that the instance may have
abbrev pub IsRowOf : Instance → ArcRow → Type 0
IsRowOf I arc = IsLawfulRow I.nodes arc × ArcFits I.demand arc

-- an arc is there, and has the ends of this row
abbrev pub HasEnds : List ArcRow → ℕ → ArcRow → Type 0
HasEnds arcs k row =
    (1 ≤ k) × (k ≤ length arcs) × (row.tail ≡ (slice_index_or arcs (k - 1) row).tail) × (row.head ≡ (slice_index_or arcs (k - 1) row).head)

-- where the flow of arc k stands in a flow of the reduced instance, in which the return arc comes first
abbrev pub flow_index : Demand → ℕ → ℕ
flow_index (Terminals source sink) k = k
flow_index _ k = k - 1

-- the flow of arc k, or another number where there is no such arc
abbrev pub flow_or : Moment → ℕ → ℤ → ℤ
flow_or m k other = slice_index_or m.flow (flow_index m.instance.demand k) other

abbrev pub supplies_in : Demand → List ℤ
supplies_in (Supplies supplies) = supplies
supplies_in _ = []

-- ---- a moment with another number, mark or row at one place

abbrev pub with_flow_at : Moment → ℕ → ℤ → Moment
with_flow_at m k x = record m { flow = slice_set m.flow (flow_index m.instance.demand k) x }

abbrev pub with_potential_at : Moment → ℕ → ℤ → Moment
with_potential_at m v potential = record m { potentials = slice_set m.potentials (v - 1) potential }

abbrev pub with_mark_at : Moment → ℕ → Bool → Moment
with_mark_at m v mark = record m { cut = slice_set m.cut (v - 1) mark }

abbrev pub with_row_at : Moment → ℕ → ArcRow → Moment
with_row_at m k row = record m { instance = with_arc m.instance k row }

abbrev pub with_supply_at : Moment → ℕ → ℤ → Moment
with_supply_at m v supply = record m { instance = with_node_supply m.instance v supply }

-- one with one arc more, which carries x
abbrev pub with_last_arc : Moment → ArcRow → ℤ → Moment
with_last_arc m row x = record m { instance = with_last m.instance row; flow = m.flow ++ x ∷ [] }
