-- What is printed of a moment, and for the reply to a command.
use Rattle.std.specs.Prelude.{ℕ, ℤ, ◌+◌, Bool, List, [], ◌∷◌, ◌++◌, if◌then◌else◌}
use Rattle.dimacs_io.specs.Line.{value_line, flow_line, potential_line, shortage_line, cut_line, refusal_line}
use Rattle.dimacs_text.specs.declared.problem.ArcRow.{ArcRow}
use Rattle.network.specs.Instance.{numbered_flow}
use Rattle.flow_solver.specs.declared.verdict.Verdict.{Verdict}
use Rattle.flow_solver.specs.declared.verdict.Verdict.TheVariants.{Best, Infeasible}
use Rattle.flow_solver.specs.Moment.{Moment}
use Rattle.session.specs.Step.{Reply, TellsVerdict, Shows, Refuses}

-- the `f` line of an arc, and one an arc in the order of the arcs
abbrev pub flow_line_of : ArcRow → ℤ → List ℕ
flow_line_of arc x = flow_line arc.tail arc.head x

abbrev pub flow_lines : List ArcRow → List ℤ → List ℕ
flow_lines [] flow = []
flow_lines (arc ∷ arcs) [] = []
flow_lines (arc ∷ arcs) (x ∷ flow) = flow_line_of arc x ++ flow_lines arcs flow

-- one `v` line a node, of which this is the first
abbrev pub potential_lines : ℕ → List ℤ → List ℕ
potential_lines id [] = []
potential_lines id (potential ∷ potentials) = potential_line id potential ++ potential_lines (id + 1) potentials

-- one `k` line a marked node, where this is the first node
abbrev pub cut_lines : ℕ → List Bool → List ℕ
cut_lines id [] = []
cut_lines id (mark ∷ marks) = (if mark then cut_line id else []) ++ cut_lines (id + 1) marks

-- the worth of a best flow, or the shortage of a breach
abbrev pub outcome_line : Verdict → List ℕ
outcome_line (Best worth) = value_line worth
outcome_line (Infeasible shortage) = shortage_line shortage

-- that of a moment
abbrev pub outcome_text : Moment → List ℕ
outcome_text m = outcome_line m.verdict

-- a best flow, with its potentials where a proof is asked for
abbrev pub best_text : ℤ → Bool → Moment → List ℕ
best_text worth proof m =
    value_line worth ++ flow_lines m.instance.arcs (numbered_flow m.instance.demand m.flow) ++ (if proof then potential_lines 1 m.potentials else [])

-- a breach
abbrev pub breach_text : ℤ → List Bool → List ℕ
breach_text shortage cut = shortage_line shortage ++ cut_lines 1 cut

abbrev pub solution_by : Verdict → Bool → Moment → List ℕ
solution_by (Best worth) proof m = best_text worth proof m
solution_by (Infeasible shortage) proof m = breach_text shortage m.cut

-- the solution of a moment, by its verdict
abbrev pub solution : Bool → Moment → List ℕ
solution proof m = solution_by m.verdict proof m

-- what is printed for a reply, where this is the present moment after the step
abbrev pub reply_text : Reply → Moment → List ℕ
reply_text TellsVerdict m = outcome_text m
reply_text (Shows proof) m = solution proof m
reply_text (Refuses number) m = refusal_line number
