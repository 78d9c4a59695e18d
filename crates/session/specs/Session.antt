-- A session as whole moments, and what lies between each moment and the next.
use Rattle.std.specs.Prelude.{◌≡◌, ℕ, ◌+◌, ◌-◌, ◌≤◌, List, [], ◌∷◌, ◌++◌, length, map, take, All, Ok, IfSome, slice_index_or}
use Rattle.std.specs.Option.{unwrap_or}
use Rattle.dimacs_text.specs.declared.command.Edit.{Edit}
use Rattle.dimacs_text.specs.declared.problem.Kind.{Kind}
use Rattle.network.specs.Edited.{edited, edited_all}
use Rattle.network.specs.Instance.{Instance, at_node, kind_of}
use Rattle.flow_solver.specs.Moment.{Moment}
use Rattle.flow_solver.specs.Answer.{IsAnswered}
use Rattle.flow_solver.specs.Edit.{AreChanges, ChangeAllTo, ChangesTo, IsChange}
use Rattle.flow_solver.specs.Part.{place_of_edit, place_of_part, AreLogged, InstancePlace}
use Rattle.flow_solver.specs.TablesView.{TablesView}
use Rattle.history.specs.Boards.{Changes, all_changes, Timeline, all_boards, boards, StandsFor}
use Rattle.session.specs.declared.marks.Mark.{Mark}
use Rattle.flow_solver.specs.declared.part.Part.{Part}
use Rattle.session.specs.Group.{ArePartsOf}
use Rattle.session.specs.Marks.{AreMarks, AreOn, IsMovedTo, marked, with_mark}
use Rattle.session.specs.Places.{IsRising, AreWithin, IsDifference, end_of}
use Rattle.session.specs.Parts.{named, listed, flow_of, instance_swapped, IsOneEnd, PartsLeadBack}
use Rattle.session.specs.Record.{Recorded, RecordFits, Differs, with_record}

-- the moments in the order of time, the record between each moment and the next, and the marks of moments
pub record Stack : Type 0 where
  pub moments : Timeline Moment
  pub records : List Recorded
  pub marks : List Mark

-- the present moment
abbrev pub present : Stack → Moment
present s = s.moments.present

-- how many moments are past
abbrev pub past_count : Stack → ℕ
past_count s = length s.moments.past

-- moment i, counted from 0 at the opening
abbrev pub moment_at : Stack → ℕ → Moment
moment_at s i = slice_index_or (all_boards s.moments) i s.moments.present

-- the kind of problem that the present moment is one of
abbrev pub present_kind : Timeline Moment → Kind
present_kind moments = kind_of moments.present.instance.demand

-- an edit was applied: the instance is the edited one, the moment answers it, and so many pushes led there
pub record IsEdited (edit : Edit) (old new : Moment) : Type 0 where
  pub instance : edited old.instance edit ≡ Ok new.instance
  pub answered : IsAnswered new
  pub pushes : ℕ
  pub led : ChangesTo edit old new pushes

-- edits were applied together: the instance is the edited one, the moment answers it, and so many pushes led there
pub record AreEdited (edits : List Edit) (old new : Moment) : Type 0 where
  pub instance : edited_all old.instance edits ≡ Ok new.instance
  pub answered : IsAnswered new
  pub pushes : ℕ
  pub led : ChangeAllTo edits old new pushes

-- the moment before the last change of the tables, where there was one, and its instance
abbrev pub old_moment : TablesView → Moment
old_moment shown = unwrap_or shown.before shown.moment

abbrev pub old_instance : TablesView → Instance
old_instance shown = (old_moment shown).instance

-- the parts are those of the edits that were logged of it
abbrev pub ArePartsLogged : TablesView → List Part → Type 0
ArePartsLogged shown ps = (edits : List Edit) → AreLogged edits shown.kept.log → ArePartsOf edits (old_instance shown) ps

-- they lead back before it
abbrev pub LeadBefore : TablesView → List Part → Type 0
LeadBefore shown ps = PartsLeadBack ps (old_instance shown) shown.moment.instance

-- the parts, in their normal form, name places with what the other moment has there: nodes and arcs once and rising, then
-- arcs that only the other moment has, with their flows, or how many arcs only this one has. Outside these places the
-- instances are equal
pub record PartsTell (ps : List Part) (present other : Moment) : Type 0 where
  pub normal : ps ≡ listed (named ps)
  pub nodes : IsRising (named ps).supplies × AreWithin present.instance.nodes (named ps).supplies
  pub arcs : IsRising (named ps).rows × AreWithin (length present.instance.arcs - (named ps).go) (named ps).rows
  pub go : (named ps).go ≤ length present.instance.arcs
  pub one_end : IsOneEnd (named ps)
  pub one_flow : length (named ps).come_flows ≡ length (named ps).come_rows
  pub flows : end_of (length (named ps).come_flows) (flow_of other) ≡ (named ps).come_flows
  pub instance : other.instance ≡ instance_swapped (named ps) present.instance

-- the record names what differs between two moments, with the values of the other one
pub record IsRecord (r : Recorded) (present other : Moment) : Type 0 where
  pub parts : PartsTell r.parts present other
  pub flows : IsDifference r.flows (flow_of other) (flow_of present)
  pub potentials : IsDifference r.potentials other.potentials present.potentials
  pub marks : IsDifference r.marks other.cut present.cut
  pub verdict : r.verdict ≡ other.verdict

-- the record leads from moment i + 1 back to moment i, or from moment i on to moment i + 1
abbrev pub LeadsToEarlier : Stack → ℕ → Recorded → Type 0
LeadsToEarlier s i r = IsRecord r (moment_at s (i + 1)) (moment_at s i)

abbrev pub LeadsToLater : Stack → ℕ → Recorded → Type 0
LeadsToLater s i r = IsRecord r (moment_at s i) (moment_at s (i + 1))

-- what a session keeps of its changes and its tables
pub record IsHistoryAt (h : Changes Recorded) (m : Moment) : Type 0 where
  pub stands : StandsFor RecordFits with_record h m
  pub exact : StandsFor Differs with_record h m
  pub answered : All IsAnswered (all_boards (boards with_record h m))

-- what it keeps of them and of its marks
pub record IsSessionAt (h : Changes Recorded) (m : Moment) (marks : List Mark) : Type 0 where
  pub kept : IsHistoryAt h m
  pub marked : AreOn (boards with_record h m) marks
  pub few : AreMarks marks

-- the moments and the records of such changes at a moment, with the marks
abbrev pub stack_of : Changes Recorded → Moment → List Mark → Stack
stack_of h m marks = record { moments = boards with_record h m; records = all_changes h; marks = marks }

-- the places of a record's parts
abbrev pub places_of : Recorded → List InstancePlace
places_of r = map place_of_part r.parts

-- ---- what a call does to moments, records and marks

-- an edit, or several together, lead to the new present moment by so many pushes, under the potentials of the old one
abbrev pub EditLeads : Edit → Stack → Stack → ℕ → Type 0
EditLeads edit old new n =
    IsChange (present old).instance (present new).instance edit (at_node (present old).potentials) (present old).flow (present new).flow n

abbrev pub EditsLead : List Edit → Stack → Stack → ℕ → Type 0
EditsLead edits old new n =
    AreChanges (present old).instance (present new).instance edits (at_node (present old).potentials) (present old).flow (present new).flow n

-- the records of the past stay, and this one follows
abbrev pub AddsRecord : Recorded → Stack → Stack → Type 0
AddsRecord r old new = new.records ≡ take (past_count old) old.records ++ r ∷ []

-- one follows whose one part is at the place of the edit, or whose parts are those of the edits
abbrev pub RecordsEdit : Edit → Stack → Stack → Type 0
RecordsEdit edit old new = (r : Recorded) × AddsRecord r old new × (places_of r ≡ place_of_edit edit ∷ [])

abbrev pub RecordsEdits : List Edit → Stack → Stack → Type 0
RecordsEdits edits old new = (r : Recorded) × AddsRecord r old new × ArePartsOf edits (present old).instance r.parts

-- the name's mark stands on the present moment
abbrev pub present_marked : Stack → List ℕ → Stack
present_marked s name = record s { marks = with_mark s.marks name (past_count s) }

-- where a moment bears the name, it is the present one now
abbrev pub MovesToMark : List ℕ → Stack → Stack → Type 0
MovesToMark name old new = IfSome (marked old.marks name) (λ moment. IsMovedTo moment old.moments new.moments)
