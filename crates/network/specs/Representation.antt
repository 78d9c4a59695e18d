-- What the fields of a network stand for.
use Rattle.std.specs.Prelude.{[], ◌∷◌, ◌+◌, ◌*◌, All, ◌≡◌, ◌≤◌, length, ℕ, ℤ, pos, int_lt, List, drop, map, suc, zero, Option, None, Some}
use Rattle.dimacs_text.specs.declared.problem.ArcRow.{ArcRow}
use Rattle.dimacs_text.specs.declared.problem.TheConstants.{SUPPLY_LIMIT}
use Rattle.dimacs_text.specs.Lawful.{IsWithin}
use Rattle.network.specs.declared.Goal.{Goal}
use Rattle.network.specs.declared.Goal.TheVariants.{LeastCost, GreatestFlow, Assignment}
use Rattle.network.specs.Instance.{Demand, Supplies, Terminals, Sides, Instance, IsLawful, at_node, reduced_arcs, reduced_supply, return_arc}
use Rattle.network.specs.Ends.{AreEndLists}

-- the supplies are those of the reduced instance: of an assignment 1 on the source side and -1 on the sink side
abbrev pub demand_by : Goal → List ℤ → Demand
demand_by LeastCost supplies = Supplies supplies
demand_by (GreatestFlow source sink) supplies = Terminals source sink
demand_by Assignment supplies = Sides (map (int_lt (pos 0)) supplies)

abbrev pub instance_of : ℕ → Goal → List ℤ → List ArcRow → ℕ → Instance
instance_of nodes goal supplies arcs room = record { nodes = nodes; demand = demand_by goal supplies; arcs = arcs; room = room }

-- the rows where there is no arc
abbrev pub return_rows : Goal → List ArcRow
return_rows (GreatestFlow source sink) = return_arc source sink ∷ []
return_rows _ = []

-- how many rows stand before that of the first arc
abbrev pub front : Goal → ℕ
front (GreatestFlow source sink) = 1
front _ = 0

-- the arcs among the rows
abbrev pub arcs_in : Goal → List ArcRow → List ArcRow
arcs_in goal rows = drop (front goal) rows

-- the end in an entry of a list of ends: its number and 1, or 0 where there is none
abbrev pub listed_end : ℕ → Option ℕ
listed_end zero = None
listed_end (suc end) = Some end

abbrev pub ends_in : List ℕ → List (Option ℕ)
ends_in entries = map listed_end entries

-- the rows are the arcs of the reduced instance
pub record IsSound (nodes : ℕ) (goal : Goal) (supplies : List ℤ) (rows : List ArcRow) (room : ℕ) (first next : List (Option ℕ)) (rows_room next_room : ℕ) : Type 0 where
  pub rows_are : rows ≡ reduced_arcs (demand_by goal supplies) (arcs_in goal rows)
  pub lawful : IsLawful (instance_of nodes goal supplies (arcs_in goal rows) room)
  pub supplies_len : length supplies ≡ nodes
  pub supply_is : (v : ℕ) → 1 ≤ v → v ≤ nodes → at_node supplies v ≡ reduced_supply (demand_by goal supplies) v
  pub supplies_small : All (IsWithin SUPPLY_LIMIT) supplies
  pub lists : AreEndLists nodes (arcs_in goal rows) first next
  pub rows_fit : front goal + room ≤ rows_room
  pub ends_fit : 2 * room ≤ next_room

-- an instance may begin so
pub record CanBegin (goal : Goal) (supplies : List ℤ) (arcs : List ArcRow) (room : ℕ) : Type 0 where
  pub lawful : IsLawful (instance_of (length supplies) goal supplies arcs room)
  pub supply_is : (v : ℕ) → 1 ≤ v → v ≤ length supplies → at_node supplies v ≡ reduced_supply (demand_by goal supplies) v
  pub small : All (IsWithin SUPPLY_LIMIT) supplies
