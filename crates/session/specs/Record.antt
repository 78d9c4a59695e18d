-- What a step changes: places of the instance, the flows, potentials and marks that differ, and the verdict, each with
-- the value of the moment farther from the present.
use Rattle.std.specs.Prelude.{◌≡◌, ℕ, ◌-◌, ℤ, Bool, List, ◌++◌, length, All}
use Rattle.network.specs.Flow.{IsPotential}
use Rattle.network.specs.Instance.{IsLawful}
use Rattle.flow_solver.specs.declared.verdict.Verdict.{Verdict}
use Rattle.flow_solver.specs.Moment.{Moment, returned, VerdictFits}
use Rattle.flow_solver.specs.TablesView.{IsFlowValue}
use Rattle.flow_solver.specs.declared.part.Part.{Part}
use Rattle.session.specs.Places.{exchanged, taken, PlacesFit, AllDiffer, changed}
use Rattle.session.specs.Parts.{named, listed, flow_of, instance_swapped, named_turned, PartsFit}

-- what contracts see of a record: the parts, the places of each list with their values, and the verdict
pub record Recorded : Type 0 where
  pub parts : List Part
  pub flows : List (ℕ × ℤ)
  pub potentials : List (ℕ × ℤ)
  pub marks : List (ℕ × Bool)
  pub verdict : Verdict

-- the moment with other flows of its numbered arcs
abbrev pub with_flow : Moment → List ℤ → Moment
with_flow m flow = record m { flow = returned m.instance.demand m.verdict ++ flow }

-- the moment with these values at their places: flows of numbered arcs, potentials, marks
abbrev pub flows_swapped : List (ℕ × ℤ) → Moment → Moment
flows_swapped places m = with_flow m (exchanged places (flow_of m))

abbrev pub potentials_swapped : List (ℕ × ℤ) → Moment → Moment
potentials_swapped places m = record m { potentials = exchanged places m.potentials }

abbrev pub marks_swapped : List (ℕ × Bool) → Moment → Moment
marks_swapped places m = record m { cut = exchanged places m.cut }

-- the moment with the record's values; the return arc's flow is what the verdict tells
abbrev pub with_record : Recorded → Moment → Moment
with_record r m = record {
  instance = instance_swapped (named r.parts) m.instance;
  flow = returned m.instance.demand r.verdict ++ changed r.flows (named r.parts).go (named r.parts).come_flows (flow_of m);
  potentials = exchanged r.potentials m.potentials;
  verdict = r.verdict;
  cut = exchanged r.marks m.cut;
}

-- the record with the moment's values
abbrev pub record_turned : Recorded → Moment → Recorded
record_turned r m = record {
  parts = listed (named_turned (named r.parts) m);
  flows = taken r.flows (flow_of m);
  potentials = taken r.potentials m.potentials;
  marks = taken r.marks m.cut;
  verdict = m.verdict;
}

abbrev pub IsMark : Bool → Type 0
IsMark mark = Unit {0}

-- there is one flow an arc, beside that of the return arc
abbrev pub HasOneFlowAnArc : Moment → Type 0
HasOneFlowAnArc m = length (flow_of m) ≡ length m.instance.arcs

-- the tables hold such a moment, be it answered or not; the verdict tells the return arc's flow
pub record IsMomentInRange (m : Moment) : Type 0 where
  pub lawful : IsLawful m.instance
  pub verdict : VerdictFits m.instance.demand m.verdict
  pub told : m.flow ≡ returned m.instance.demand m.verdict ++ flow_of m
  pub one_an_arc : HasOneFlowAnArc m
  pub flow : All IsFlowValue (flow_of m)
  pub one_a_node : length m.potentials ≡ m.instance.nodes
  pub potentials : All IsPotential m.potentials
  pub marks : length m.cut ≡ m.instance.nodes

-- the record can be exchanged with the moment
pub record RecordFits (r : Recorded) (m : Moment) : Type 0 where
  pub in_range : IsMomentInRange m
  pub parts : PartsFit r.parts m.instance
  pub verdict : VerdictFits m.instance.demand r.verdict
  pub flows : PlacesFit IsFlowValue (length (flow_of m) - (named r.parts).go) r.flows
  pub potentials : PlacesFit IsPotential (length m.potentials) r.potentials
  pub marks : PlacesFit IsMark (length m.cut) r.marks

-- the record names only what differs from the moment's
pub record Differs (r : Recorded) (m : Moment) : Type 0 where
  pub flows : AllDiffer r.flows (flow_of m)
  pub potentials : AllDiffer r.potentials m.potentials
  pub marks : AllDiffer r.marks m.cut
