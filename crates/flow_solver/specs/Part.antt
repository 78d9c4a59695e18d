-- How the last change of an instance is taken back, part by part.
use Rattle.std.specs.Prelude.{◌≡◌, ℕ, ◌-◌, ◌<◌, List, [], ◌∷◌, ◌++◌, length, map, take, Option, None, Some, IfSome, Ok, slice_set}
use Rattle.dimacs_lines.specs.Fields.{IsNode}
use Rattle.dimacs_text.specs.Lawful.{IsWithin}
use Rattle.dimacs_text.specs.declared.command.Edit.{Edit}
use Rattle.dimacs_text.specs.declared.command.Edit.TheVariants as edits
use Rattle.dimacs_text.specs.declared.problem.TheConstants.{SUPPLY_LIMIT}
use Rattle.dimacs_text.specs.declared.problem.Kind.TheVariants.{Min}
use Rattle.network.specs.Edited.{edited}
use Rattle.network.specs.Instance.{Instance, kind_of, reduced, with_supply}
use Rattle.flow_solver.specs.declared.part.Part.{Part}
use Rattle.flow_solver.specs.declared.part.Part.TheVariants.{Arc, Supply, Last, Gone}
use Rattle.flow_solver.specs.declared.verdict.Verdict.{Verdict}
use Rattle.flow_solver.specs.Moment.{Snapshot, Moment}
use Rattle.flow_solver.specs.TablesView.{HasEnds, IsRowOf, TablesView}

-- a place of an instance that an edit changes
pub data InstancePlace : Type 0 where
  OfArc : ℕ → InstancePlace
  OfNode : ℕ → InstancePlace
  OfNewArc : InstancePlace

abbrev pub place_of_part : Part → InstancePlace
place_of_part (Arc k row) = OfArc k
place_of_part (Supply id value) = OfNode id
place_of_part Last = OfNewArc
place_of_part (Gone row flow) = OfNewArc

abbrev pub place_of_edit : Edit → InstancePlace
place_of_edit (edits.Cap arc cap) = OfArc arc
place_of_edit (edits.Low arc low) = OfArc arc
place_of_edit (edits.Cost arc cost) = OfArc arc
place_of_edit (edits.Supply node value) = OfNode node
place_of_edit (edits.Add tail head low cap cost) = OfNewArc
place_of_edit (edits.Close arc) = OfArc arc

-- a part was logged for each edit, at its place
abbrev pub AreLogged : List Edit → List Part → Type 0
AreLogged edits log = map place_of_part log ≡ map place_of_edit edits

-- the instance before the change
abbrev pub before_part : Part → Instance → Instance
before_part (Arc k row) I = record I { arcs = slice_set I.arcs (k - 1) row }
before_part (Supply v value) I = record I { demand = with_supply I.demand v value }
before_part Last I = record I { arcs = take (length I.arcs - 1) I.arcs }
before_part (Gone row flow) I = record I { arcs = I.arcs ++ row ∷ [] }

-- what taking it back asks for; no edit takes an arc off, so none is brought back
abbrev pub CanTakeBack : Part → Instance → Type 0
CanTakeBack (Arc k row) I = HasEnds I.arcs k row × IsRowOf I row
CanTakeBack (Supply v value) I = (kind_of I.demand ≡ Min) × IsNode I.nodes v × IsWithin SUPPLY_LIMIT value
CanTakeBack Last I = 0 < length I.arcs
CanTakeBack (Gone row flow) I = ⊥

-- from each instance that the edit gives the part leads back
pub record TakesBack (I : Instance) (edit : Edit) (part : Part) : Type 0 where
  pub can : (J : Instance) → edited I edit ≡ Ok J → CanTakeBack part J
  pub back : (J : Instance) → edited I edit ≡ Ok J → before_part part J ≡ I

-- the instance before all that is logged: the last is taken back first
abbrev pub before_all : List Part → Instance → Instance
before_all [] I = I
before_all (part ∷ log) I = before_part part (before_all log I)

abbrev pub CanTakeBackAll : List Part → Instance → Type 0
CanTakeBackAll [] I = Unit {0}
CanTakeBackAll (part ∷ log) I = CanTakeBackAll log I × CanTakeBack part (before_all log I)

-- what is logged leads from the instance J back to the instance I
pub record LeadsBack (log : List Part) (I J : Instance) : Type 0 where
  pub can : CanTakeBackAll log J
  pub back : before_all log J ≡ I

-- it leads back from the moment that the tables hold to the one before, where there is one
abbrev pub LeadsBefore : List Part → TablesView → Type 0
LeadsBefore log shown = IfSome shown.before (λ old. LeadsBack log old.instance shown.moment.instance)

-- what the edit replaces was logged, and all else that was kept stays
pub record IsLogged (I : Instance) (edit : Edit) (kept now : Snapshot) : Type 0 where
  pub part : Part
  pub takes_back : TakesBack I edit part
  pub place : place_of_part part ≡ place_of_edit edit
  pub now_is : now ≡ record kept { log = kept.log ++ part ∷ [] }

-- the moment before, where it can be given back: what was kept, with what was told of it then
abbrev pub before_of : Option Verdict → Instance → Snapshot → Option Moment
before_of None I kept = None
before_of (Some told) I kept =
    Some (record { instance = before_all kept.log I; flow = kept.flow; potentials = kept.potentials; verdict = told; cut = kept.cut })

-- where the moment before can be given back, what was kept is of it
abbrev pub IsKept : Option Verdict → Instance → Snapshot → Type 0
IsKept None I kept = Unit {0}
IsKept (Some told) I kept = CanTakeBackAll kept.log I × (length kept.flow ≡ length (reduced (before_all kept.log I)).arcs)
