-- Edits of an instance: the first refusal that applies, else the instance with that one change.
use Rattle.std.specs.Prelude.{◌≡◌, ℕ, ◌+◌, ◌-◌, ◌<◌, ◌^◌, ◌==◌, ℤ, pos, neg_ℤ, ◌-ℤ◌, int_le, unsigned_abs, nat_le, nat_lt, Bool, true, not, ◌&&◌, if◌then◌else◌, List, [], ◌∷◌, ◌++◌, length, Option, Some, None, Result, Ok, Err, slice_set}
use Rattle.std.specs.Option.{option_map}
use Rattle.dimacs_text.specs.declared.command.Edit.{Edit}
use Rattle.dimacs_text.specs.declared.command.Edit.TheVariants.{Cap, Low, Cost, Supply, Add, Close}
use Rattle.dimacs_text.specs.declared.problem.ArcRow.{ArcRow}
use Rattle.dimacs_text.specs.declared.problem.Kind.{Kind}
use Rattle.dimacs_text.specs.declared.problem.Kind.TheVariants.{Min, Max, Asn}
use Rattle.dimacs_text.specs.declared.problem.TheConstants.{CAP_LIMIT, COST_LIMIT, SUPPLY_LIMIT}
use Rattle.network.specs.declared.refusal.EditRefusal.{EditRefusal}
use Rattle.network.specs.declared.refusal.EditRefusal.TheVariants.{NotForKind, OutOfRange, NoSuchArc, NoSuchNode, LowAboveCap, NotAcrossSides, TableFull}
use Rattle.network.specs.Refusal.{number_of}
use Rattle.dimacs_lines.specs.Checks.{numbered}
use Rattle.dimacs_text.specs.Command.{is_for, verb_for}
use Rattle.network.specs.Instance.{Demand, Supplies, Terminals, Sides, Instance, arc_at, is_marked, kind_of, reduced_supply, with_supply}

-- the kinds that have the edit
abbrev pub has_edit : Kind → Edit → Bool
has_edit kind edit = is_for kind (verb_for edit)

-- a bound of an arc, and a number that is at most the limit either way
abbrev pub is_bound : ℤ → Bool
is_bound x = int_le (pos 0) x && int_le x (pos CAP_LIMIT)

abbrev pub is_within : ℤ → ℤ → Bool
is_within limit x = int_le (neg_ℤ limit) x && int_le x limit

-- the numbers of a new arc are those of the kind
abbrev pub suits_kind : Kind → ℤ → ℤ → ℤ → Bool
suits_kind Min low cap cost = true
suits_kind Max low cap cost = int_le low (pos 0) && is_within (pos 0) cost
suits_kind Asn low cap cost = int_le low (pos 0) && (int_le (pos 1) cap && int_le cap (pos 1))

abbrev pub is_new_row : Kind → ℤ → ℤ → ℤ → Bool
is_new_row kind low cap cost = (is_bound low && is_bound cap) && (is_within COST_LIMIT cost && suits_kind kind low cap cost)

abbrev pub is_node : ℕ → ℕ → Bool
is_node nodes v = nat_le 1 v && nat_le v nodes

-- an arc of an assignment leads from the source side to the sink side
abbrev pub is_across : Demand → ℕ → ℕ → Bool
is_across (Supplies supplies) tail head = true
is_across (Terminals source sink) tail head = true
is_across (Sides marks) tail head = is_marked marks tail && not (is_marked marks head)

abbrev pub has_room : Instance → Bool
has_room I = nat_lt (length I.arcs) I.room

-- ---- one check after the other

abbrev pub demand : {A : Type 0} → Bool → EditRefusal → Result A EditRefusal → Result A EditRefusal
demand met refusal rest = if met then rest else Err refusal

abbrev pub row_or : {A : Type 0} → Option ArcRow → (ArcRow → Result A EditRefusal) → Result A EditRefusal
row_or None rest = Err NoSuchArc
row_or (Some row) rest = rest row

-- an instance with another row of arc k, with one arc more, and with another supply of node v
abbrev pub with_arc : Instance → ℕ → ArcRow → Instance
with_arc I k row = record I { arcs = slice_set I.arcs (k - 1) row }

abbrev pub with_last : Instance → ArcRow → Instance
with_last I row = record I { arcs = I.arcs ++ row ∷ [] }

abbrev pub with_node_supply : Instance → ℕ → ℤ → Instance
with_node_supply I v supply = record I { demand = with_supply I.demand v supply }

abbrev pub added : Instance → ℕ → ℕ → ℤ → ℤ → ℤ → Result Instance EditRefusal
added I tail head low cap cost =
    demand (is_node I.nodes tail && is_node I.nodes head) NoSuchNode (
    demand (int_le low cap) LowAboveCap (
    demand (is_across I.demand tail head) NotAcrossSides (
    demand (has_room I) TableFull (
    Ok (with_last I (record { tail = tail; head = head; low = low; cap = cap; cost = cost }))))))

abbrev pub edited_by : Instance → Edit → Result Instance EditRefusal
edited_by I (Cap k cap) =
    demand (is_bound cap) OutOfRange (row_or (arc_at I.arcs k) (λ row. demand (int_le row.low cap) LowAboveCap (Ok (with_arc I k (record row { cap = cap })))))
edited_by I (Low k low) =
    demand (is_bound low) OutOfRange (row_or (arc_at I.arcs k) (λ row. demand (int_le low row.cap) LowAboveCap (Ok (with_arc I k (record row { low = low })))))
edited_by I (Cost k cost) =
    demand (is_within COST_LIMIT cost) OutOfRange (row_or (arc_at I.arcs k) (λ row. Ok (with_arc I k (record row { cost = cost }))))
edited_by I (Supply v value) =
    demand (is_within SUPPLY_LIMIT value) OutOfRange (demand (is_node I.nodes v) NoSuchNode (Ok (with_node_supply I v value)))
edited_by I (Add tail head low cap cost) = demand (is_new_row (kind_of I.demand) low cap cost) OutOfRange (added I tail head low cap cost)
edited_by I (Close k) = row_or (arc_at I.arcs k) (λ row. Ok (with_arc I k (record row { low = pos 0; cap = pos 0 })))

-- each check in its order
abbrev pub tried : Instance → Edit → Result Instance EditRefusal
tried I edit = demand (has_edit (kind_of I.demand) edit) NotForKind (edited_by I edit)

-- the number of the first refusal that applies, else the instance with that one change
abbrev pub edited : Instance → Edit → Result Instance ℕ
edited I edit = numbered number_of (tried I edit)

-- ---- edits made together

abbrev pub and_then : Result Instance ℕ → (Instance → Result Instance ℕ) → Result Instance ℕ
and_then (Ok I) next = next I
and_then (Err number) next = Err number

-- one edit after the other, each on what those before it left; the first refusal wins
unfoldable pub edited_all : Instance → List Edit → Result Instance ℕ
edited_all I [] = Ok I
edited_all I (edit ∷ edits) = and_then (edited I edit) (λ after. edited_all after edits)

-- ---- whether it is done, without the instance

abbrev pub outcome : {E : Type 0} → Result Instance E → Result (Unit {0}) E
outcome (Ok I) = Ok tt
outcome (Err refusal) = Err refusal

-- the answer to an edit of the arc with this row, of whichever instance and number that is
abbrev pub AnswersEditOf : Option ArcRow → (ℕ → Edit) → Result (Unit {0}) EditRefusal → Type 0
AnswersEditOf row edit answer =
    (before : Instance) (arc : ℕ) → row ≡ arc_at before.arcs arc → answer ≡ outcome (edited_by before (edit arc))

-- ---- how far an edit can put a flow off

abbrev pub units_of_row : Option ArcRow → (ArcRow → ℤ) → ℕ
units_of_row None change = 0
units_of_row (Some row) change = unsigned_abs (change row)

-- the units of flow by which an edit can change what is left to send out
abbrev pub units : Instance → Edit → ℕ
units I (Cap k cap) = units_of_row (arc_at I.arcs k) (λ row. cap -ℤ row.cap)
units I (Low k low) = units_of_row (arc_at I.arcs k) (λ row. low -ℤ row.low)
units I (Cost k cost) = units_of_row (arc_at I.arcs k) (λ row. row.cap -ℤ row.low)
units I (Supply v value) = unsigned_abs (value -ℤ reduced_supply I.demand v)
units I (Add tail head low cap cost) = unsigned_abs cap
units I (Close k) = units_of_row (arc_at I.arcs k) (λ row. row.cap)

-- ---- of edits made together

abbrev pub and_units : Result Instance ℕ → (Instance → ℕ) → ℕ
and_units (Ok J) rest = rest J
and_units (Err number) rest = 0

-- the units of edits made together, each on the instance that those before it left
unfoldable pub units_all : Instance → List Edit → ℕ
units_all I [] = 0
units_all I (edit ∷ edits) = units I edit + and_units (edited I edit) (λ after. units_all after edits)

-- ---- what of an instance says whether it takes an edit: what all edits leave, the arc that is named, and how many arcs there are

pub record SharesFrame (I J : Instance) : Type 0 where
  pub nodes : J.nodes ≡ I.nodes
  pub room : J.room ≡ I.room
  pub kind : kind_of J.demand ≡ kind_of I.demand
  pub across : (tail head : ℕ) → is_across J.demand tail head ≡ is_across I.demand tail head

-- the number of the arc that an edit names, or 0 where it names none
abbrev pub arc_of : Edit → ℕ
arc_of (Cap k cap) = k
arc_of (Low k low) = k
arc_of (Cost k cost) = k
arc_of (Supply v value) = 0
arc_of (Add tail head low cap cost) = 0
arc_of (Close k) = k

abbrev pub changed_if : Bool → (ArcRow → ArcRow) → Option ArcRow → Option ArcRow
changed_if found change row = if found then option_map change row else row

-- arc k once an edit is made, where so many arcs stand and arc k is this one
abbrev pub row_after : ℕ → ℕ → Option ArcRow → Edit → Option ArcRow
row_after k arcs row (Cap j cap) = changed_if (j == k) (λ row. record row { cap = cap }) row
row_after k arcs row (Low j low) = changed_if (j == k) (λ row. record row { low = low }) row
row_after k arcs row (Cost j cost) = changed_if (j == k) (λ row. record row { cost = cost }) row
row_after k arcs row (Supply v value) = row
row_after k arcs row (Add tail head low cap cost) = if arcs + 1 == k then Some (record { tail = tail; head = head; low = low; cap = cap; cost = cost }) else row
row_after k arcs row (Close j) = changed_if (j == k) (λ row. record row { low = pos 0; cap = pos 0 }) row

-- how many arcs there are then
abbrev pub count_after : ℕ → Edit → ℕ
count_after arcs (Add tail head low cap cost) = arcs + 1
count_after arcs _ = arcs

-- the nodes that a new arc would join are numbers of nodes
abbrev pub EndsFit : Edit → Type 0
EndsFit (Add tail head low cap cost) = (tail < 2 ^ 32) × (head < 2 ^ 32)
EndsFit _ = Unit {0}
