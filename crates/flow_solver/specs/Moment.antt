-- What the tables of a solver hold of an instance.
use Rattle.std.specs.Prelude.{◌≡◌, ℤ, pos, ◌≤ℤ◌, int_lt, ⊤, Bool, List, [], ◌∷◌, ◌++◌, length, map, replicate, if◌then◌else◌}
use Rattle.dimacs_text.specs.declared.problem.ArcRow.{ArcRow}
use Rattle.network.specs.Instance.{Demand, Terminals, Instance, IsLawful, numbered_flow, reduced}
use Rattle.network.specs.declared.TheConstants.{RETURN_CAP}
use Rattle.flow_solver.specs.declared.part.Part.{Part}
use Rattle.flow_solver.specs.declared.verdict.Verdict.{Verdict}
use Rattle.flow_solver.specs.declared.verdict.Verdict.TheVariants.{Best, Infeasible}
use Rattle.residual_graph.specs.Residual.{number_at}

-- an instance, a flow of its reduction, a potential for each node, what is told of the instance, and a mark for each node
pub record Moment : Type 0 where
  pub instance : Instance
  pub flow : List ℤ
  pub potentials : List ℤ
  pub verdict : Verdict
  pub cut : List Bool

-- a lawful instance, with one flow for each arc of its reduction, and one potential and one mark for each node
pub record IsWellFormed (m : Moment) : Type 0 where
  pub lawful : IsLawful m.instance
  pub one_flow : length m.flow ≡ length (reduced m.instance).arcs
  pub one_potential : length m.potentials ≡ m.instance.nodes
  pub one_mark : length m.cut ≡ m.instance.nodes

-- what the tables keep of another moment: its flow, potentials and marks, and what the edits since then replaced in its instance
pub record Snapshot : Type 0 where
  pub flow : List ℤ
  pub potentials : List ℤ
  pub cut : List Bool
  pub log : List Part

abbrev pub kept_of : Moment → Snapshot
kept_of m = record { flow = m.flow; potentials = m.potentials; cut = m.cut; log = [] }

-- what was kept is brought back, and told of it is this
abbrev pub brought_back : Moment → Snapshot → Verdict → Moment
brought_back m kept verdict = record m { flow = kept.flow; potentials = kept.potentials; verdict = verdict; cut = kept.cut }

-- the flows of the numbered arcs
abbrev pub arc_flows : Moment → List ℤ
arc_flows m = numbered_flow m.instance.demand m.flow

-- the flow of an arc at the start: its cap where its cost is below 0, else its low
abbrev pub start : ArcRow → ℤ
start arc = if int_lt arc.cost (pos 0) then arc.cap else arc.low

-- the start flow of an instance, with potentials 0
pub record IsStart (I : Instance) (m : Moment) : Type 0 where
  pub instance : m.instance ≡ I
  pub flow : m.flow ≡ map start (reduced I).arcs
  pub potentials : m.potentials ≡ replicate I.nodes (pos 0)

-- ---- what is told and the return arc

-- a best flow is told of, of a worth that the return arc can carry
abbrev pub IsReturnVerdict : Verdict → Type 0
IsReturnVerdict (Best w) = (pos 0 ≤ℤ w) × (w ≤ℤ RETURN_CAP)
IsReturnVerdict (Infeasible d) = ⊥

-- what may be told of an instance of this kind
abbrev pub VerdictFits : Demand → Verdict → Type 0
VerdictFits (Terminals source sink) verdict = IsReturnVerdict verdict
VerdictFits _ verdict = ⊤

abbrev pub ReturnMatchesBy : Demand → Verdict → List ℤ → Type 0
ReturnMatchesBy (Terminals source sink) verdict flow = verdict ≡ Best (number_at flow 0)
ReturnMatchesBy _ verdict flow = ⊤

-- where there is a return arc, its flow is told as the worth
abbrev pub ReturnMatches : Moment → Type 0
ReturnMatches m = ReturnMatchesBy m.instance.demand m.verdict m.flow

-- what is told as the flow of the return arc, where there is one
abbrev pub returned : Demand → Verdict → List ℤ
returned (Terminals source sink) (Best w) = w ∷ []
returned _ verdict = []

-- the flow once the return arc carries what is told
abbrev pub with_return : Demand → Verdict → List ℤ → List ℤ
with_return demand verdict flow = returned demand verdict ++ numbered_flow demand flow

-- the moment once this is told of it
abbrev pub with_verdict : Moment → Verdict → Moment
with_verdict m verdict = record m { verdict = verdict; flow = with_return m.instance.demand verdict m.flow }
