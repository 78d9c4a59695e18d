-- What an edit leaves: a change of one arc or of one supply, or an arc added.
use Rattle.std.specs.Prelude.{◌≡◌, ℕ, ◌-◌, ◌<◌, ◌≤◌, Ok, IsOk, Some, slice_index_or, ℤ, pos, ◌-ℤ◌, ◌+ℤ◌, ◌<ℤ◌, ◌≤ℤ◌, unsigned_abs, List, [], ◌∷◌, ◌++◌, length, slice_set}
use Rattle.dimacs_text.specs.declared.problem.ArcRow.{ArcRow}
use Rattle.network.specs.Flow.{FollowsSign, IsCertifiedFlow, IsPotential, reduced_cost, total_excess}
use Rattle.network.specs.Instance.{Instance, ArcFits, arc_at, at_node, kind_of, reduced, with_supply}
use Rattle.network.specs.Edited.{arc_of, edited, units, units_all}
use Rattle.dimacs_lines.specs.Fields.{IsNode}
use Rattle.dimacs_text.specs.Lawful.{IsLawfulRow, IsWithin}
use Rattle.dimacs_text.specs.declared.problem.TheConstants.{SUPPLY_LIMIT}
use Rattle.dimacs_text.specs.declared.problem.Kind.TheVariants.{Min}
use Rattle.dimacs_text.specs.declared.command.Edit.{Edit}
use Rattle.dimacs_text.specs.declared.command.Edit.TheVariants.{Cap, Low, Cost, Supply, Add, Close}
use Rattle.residual_graph.specs.Residual.{number_at, row_at, IsWithinRow}
use Rattle.flow_changes.specs.Push.{Pushes}
use Rattle.flow_solver.specs.Moment.{Moment}
use Rattle.flow_solver.specs.Part.{OfArc, place_of_edit}
use Rattle.flow_solver.specs.TablesView.{TablesView, flow_index}

-- z is the flow nearest to x that the bounds of the arc and the sign of its reduced cost allow
pub record IsNearest (a : ArcRow) (reduced x z : ℤ) : Type 0 where
  pub within : IsWithinRow a z
  pub dear : pos 0 <ℤ reduced → z ≡ a.low
  pub cheap : reduced <ℤ pos 0 → z ≡ a.cap
  pub kept : reduced ≡ pos 0 → IsWithinRow a x → z ≡ x
  pub raised : reduced ≡ pos 0 → x <ℤ a.low → z ≡ a.low
  pub cut_off : reduced ≡ pos 0 → a.cap <ℤ x → z ≡ a.cap

-- z is so under the potentials of the nodes
abbrev pub IsNearestBy : (ℕ → ℤ) → ArcRow → ℤ → ℤ → Type 0
IsNearestBy potential row x z = IsNearest row (reduced_cost potential row) x z

-- an arc a of flow x keeps its residual arcs as the arc b of flow y: it costs the same, and has room still up to each bound up to which it had
pub record KeepsResidualArcs (a : ArcRow) (x : ℤ) (b : ArcRow) (y : ℤ) : Type 0 where
  pub same_cost : b.cost ≡ a.cost
  pub ahead : x <ℤ a.cap → y <ℤ b.cap
  pub behind : a.low <ℤ x → b.low <ℤ y

-- in the instance J the flow of arc k goes to the nearest value that its row and the potentials allow, and no other flow is altered
pub record GoesToNearest (J : Instance) (k : ℕ) (potential : ℕ → ℤ) (x start : List ℤ) : Type 0 where
  pub row : ArcRow
  pub there : arc_at J.arcs k ≡ Some row
  pub flow : ℤ
  pub nearest : IsNearestBy potential row (number_at x (flow_index J.demand k)) flow
  pub start_is : start ≡ slice_set x (flow_index J.demand k) flow

-- a new arc gets the flow nearest to 0 that its row and the potentials allow, and no other flow is altered
pub record BeginsNearest (row : ArcRow) (potential : ℕ → ℤ) (x start : List ℤ) : Type 0 where
  pub flow : ℤ
  pub nearest : IsNearestBy potential row (pos 0) flow
  pub start_is : start ≡ x ++ flow ∷ []

-- what an edit that gave the instance J alters in a flow x: that of its arc, which goes to the nearest value
abbrev pub IsAltered : Instance → Edit → (ℕ → ℤ) → List ℤ → List ℤ → Type 0
IsAltered J (Supply v value) potential x start = start ≡ x
IsAltered J (Add tail head low cap cost) potential x start =
    BeginsNearest (record { tail = tail; head = head; low = low; cap = cap; cost = cost }) potential x start
IsAltered J edit potential x start = GoesToNearest J (arc_of edit) potential x start

-- an edit of the instance I gave the instance J, and `start` of the flow x: what is left to send out grows by no more than the edit's units
pub record IsMade (I J : Instance) (edit : Edit) (potential : ℕ → ℤ) (x start : List ℤ) : Type 0 where
  pub after : edited I edit ≡ Ok J
  pub altered : IsAltered J edit potential x start
  pub grown : total_excess (reduced J) start ≤ℤ (total_excess (reduced I) x +ℤ pos (units I edit))

-- an edit of the instance I gave the instance J: with the potentials of before it made a flow of the flow x, of which n pushes made the flow y.
-- The pushes are no more than what was left to send out and the edit's units
pub record IsChange (I J : Instance) (edit : Edit) (potential : ℕ → ℤ) (x y : List ℤ) (n : ℕ) : Type 0 where
  pub start : List ℤ
  pub made : IsMade I J edit potential x start
  pub pushes : Pushes (reduced J).arcs (reduced J).supply n start y
  pub count : pos n ≤ℤ (total_excess (reduced I) x +ℤ pos (units I edit))

-- edits of the instance I gave the instance J, and `start` of the flow x: each is made of what those before it left, all under the same potentials
abbrev pub AreMade : Instance → List Edit → (ℕ → ℤ) → List ℤ → Instance → List ℤ → Type 0
AreMade I [] potential x J start = (J ≡ I) × (start ≡ x)
AreMade I (edit ∷ edits) potential x J start = (K : Instance) × (mid : List ℤ) × IsMade I K edit potential x mid × AreMade K edits potential mid J start

-- edits of the instance I gave the instance J together: with the potentials of before they made a flow of the flow x, of which n pushes made the flow y.
-- The pushes are no more than what was left to send out and the units of all the edits
pub record AreChanges (I J : Instance) (edits : List Edit) (potential : ℕ → ℤ) (x y : List ℤ) (n : ℕ) : Type 0 where
  pub start : List ℤ
  pub made : AreMade I edits potential x J start
  pub pushes : Pushes (reduced J).arcs (reduced J).supply n start y
  pub count : pos n ≤ℤ (total_excess (reduced I) x +ℤ pos (units_all I edits))

-- ---- what an accepted edit asks for

-- an edit that changes an arc
abbrev pub IsOfArc : Edit → Type 0
IsOfArc (Supply v value) = ⊥
IsOfArc (Add tail head low cap cost) = ⊥
IsOfArc _ = Unit {0}

-- what it makes of the arc
abbrev pub row_after_edit : Edit → ArcRow → ArcRow
row_after_edit (Cap k cap) row = record row { cap = cap }
row_after_edit (Low k low) row = record row { low = low }
row_after_edit (Cost k cost) row = record row { cost = cost }
row_after_edit (Close k) row = record row { low = pos 0; cap = pos 0 }
row_after_edit _ row = row

-- the edit changes arc k of the instance into `row`, by which a flow that keeps the sign rule moves by no more than the edit's units
pub record IsRowEdit (I : Instance) (edit : Edit) (k : ℕ) (row : ArcRow) : Type 0 where
  pub place : place_of_edit edit ≡ OfArc k
  pub arc : (1 ≤ k) × (k ≤ length I.arcs)
  pub tail : row.tail ≡ (slice_index_or I.arcs (k - 1) row).tail
  pub head : row.head ≡ (slice_index_or I.arcs (k - 1) row).head
  pub limits : IsLawfulRow I.nodes row
  pub fits : ArcFits I.demand row
  pub after : edited I edit ≡ Ok (record I { arcs = slice_set I.arcs (k - 1) row })
  pub altered : (J : Instance) (potential : ℕ → ℤ) (x start : List ℤ) → GoesToNearest J k potential x start → IsAltered J edit potential x start
  pub moved : (potential : ℕ → ℤ) (x z : ℤ) → IsWithinRow (slice_index_or I.arcs (k - 1) row) x → FollowsSign potential (slice_index_or I.arcs (k - 1) row) x → IsNearestBy potential row x z → unsigned_abs (z -ℤ x) ≤ units I edit

-- the edit changes a supply
pub record IsSupplyEdit (I : Instance) (edit : Edit) (v : ℕ) (value : ℤ) : Type 0 where
  pub is : edit ≡ Supply v value
  pub kind : kind_of I.demand ≡ Min
  pub node : IsNode I.nodes v
  pub limit : IsWithin SUPPLY_LIMIT value
  pub after : edited I edit ≡ Ok (record I { demand = with_supply I.demand v value })

-- the edit adds an arc
pub record IsAddEdit (I : Instance) (edit : Edit) (row : ArcRow) : Type 0 where
  pub is : edit ≡ Add row.tail row.head row.low row.cap row.cost
  pub room : length I.arcs < I.room
  pub limits : IsLawfulRow I.nodes row
  pub fits : ArcFits I.demand row
  pub after : edited I edit ≡ Ok (record I { arcs = I.arcs ++ row ∷ [] })

abbrev pub IsOfSupply : Edit → Type 0
IsOfSupply (Supply v value) = Unit {0}
IsOfSupply _ = ⊥

abbrev pub IsOfAdd : Edit → Type 0
IsOfAdd (Add tail head low cap cost) = Unit {0}
IsOfAdd _ = ⊥

-- ---- the same of moments

-- the potentials of a moment certify its flow
abbrev pub IsCertifiedMoment : Moment → Type 0
IsCertifiedMoment m = IsCertifiedFlow (reduced m.instance) m.flow (at_node m.potentials)

-- they are potentials at all
abbrev pub HasPotentials : Moment → Type 0
HasPotentials m = (v : ℕ) → IsNode m.instance.nodes v → IsPotential (at_node m.potentials v)

-- an edit of the first moment made the second
abbrev pub Makes : Edit → Moment → Moment → Type 0
Makes edit m n = IsMade m.instance n.instance edit (at_node m.potentials) m.flow n.flow

-- an edit can be made where the instance accepts it and the potentials certify the flow
pub record CanMake (edit : Edit) (m : Moment) : Type 0 where
  pub certified : IsCertifiedMoment m
  pub accepted : IsOk (edited m.instance edit)

-- it was made in the tables: the same potentials certify what it made of the flow, and what is kept stays
pub record IsMadeIn (edit : Edit) (old now : TablesView) : Type 0 where
  pub made : Makes edit old.moment now.moment
  pub certified : IsCertifiedMoment now.moment
  pub potentials : now.moment.potentials ≡ old.moment.potentials
  pub kept : now.kept ≡ old.kept

abbrev pub MakeAll : List Edit → Moment → Moment → Type 0
MakeAll edits m n = AreMade m.instance edits (at_node m.potentials) m.flow n.instance n.flow

-- the row of an arc, its reduced cost and its flow
abbrev pub arc_row : Moment → ℕ → ArcRow
arc_row m k = row_at (reduced m.instance).arcs (flow_index m.instance.demand k)

abbrev pub arc_reduced : Moment → ℕ → ℤ
arc_reduced m k = reduced_cost (at_node m.potentials) (arc_row m k)

abbrev pub arc_flow : Moment → ℕ → ℤ
arc_flow m k = number_at m.flow (flow_index m.instance.demand k)

-- one edit, or several together, led from the first moment to the second by so many pushes
abbrev pub ChangesTo : Edit → Moment → Moment → ℕ → Type 0
ChangesTo edit m n pushes = IsChange m.instance n.instance edit (at_node m.potentials) m.flow n.flow pushes

abbrev pub ChangeAllTo : List Edit → Moment → Moment → ℕ → Type 0
ChangeAllTo edits m n pushes = AreChanges m.instance n.instance edits (at_node m.potentials) m.flow n.flow pushes

-- arc k of the moment keeps its residual arcs once it has this row and this flow
abbrev pub KeepsResidualArcsAt : Moment → ℕ → ArcRow → ℤ → Type 0
KeepsResidualArcsAt m k row flow = KeepsResidualArcs (arc_row m k) (arc_flow m k) row flow

-- so many pushes led from the flow of the first moment to that of the second
abbrev pub PushesTo : ℕ → Moment → Moment → Type 0
PushesTo pushes m n = Pushes (reduced m.instance).arcs (reduced m.instance).supply pushes m.flow n.flow

-- what the nodes in excess have to send out still
abbrev pub left_in : Moment → ℤ
left_in m = total_excess (reduced m.instance) m.flow
