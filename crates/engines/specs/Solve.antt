-- What `solve` writes.
use Rattle.std.specs.Prelude.{◌≡◌, ℕ, ◌-◌, Bool, List, [], ◌++◌, take, Option, None, Some, Err, IfSome}
use Rattle.dimacs_io.specs.Device.{IsBeginning, text_over}
use Rattle.dimacs_io.specs.declared.device.Sink as sink
use Rattle.dimacs_io.specs.declared.device.Source as source
use Rattle.dimacs_lines.specs.declared.fault.TextFault.TheVariants.{Fault}
use Rattle.dimacs_lines.specs.Stream.{decided}
use Rattle.dimacs_text.specs.Reading.{ProblemValue, problem_rule, reads}
use Rattle.network.specs.Instance.{Instance, first}
use Rattle.flow_solver.specs.declared.verdict.Verdict.{Verdict}
use Rattle.flow_solver.specs.declared.verdict.Verdict.TheVariants as verdict
use Rattle.flow_solver.specs.Answer.{IsAnswered}
use Rattle.flow_solver.specs.Moment.{Moment}
use Rattle.runs.specs.declared.end.Text.TheVariants as the
use Rattle.runs.specs.declared.end.End.{End}
use Rattle.runs.specs.declared.end.End.TheVariants.{Solved, Infeasible, Ended, Valid, NotValid, Refused, ReadFailed, WriteFailed, Memory}
use Rattle.runs.specs.Reading.{IsProblemText}
use Rattle.engines.specs.Printing.{solution}

-- the moment answers the instance
pub record IsSettled (I : Instance) (m : Moment) : Type 0 where
  pub instance_is : m.instance ≡ I
  pub answered : IsAnswered m

-- how a run ends that writes the solution
abbrev pub end_by : Verdict → End
end_by (verdict.Best worth) = Solved
end_by (verdict.Infeasible shortage) = Infeasible

-- the whole text was given and is a problem, and this is settled of it
pub record Solves (text given : List ℕ) (m : Moment) : Type 0 where
  pub problem : ProblemValue
  pub problem_read : IsProblemText text given problem
  pub settled : IsSettled (first problem 0) m

-- the printing of what is settled was written
pub record Prints (end : End) (proof : Bool) (text given written : List ℕ) : Type 0 where
  pub moment : Moment
  pub solves : Solves text given moment
  pub ends : end ≡ end_by moment.verdict
  pub written_is : written ≡ solution proof moment

-- what was written, by how the run ends, over the text of the source and the first bytes of it that were given
abbrev pub SolveWrites : End → Bool → List ℕ → List ℕ → List ℕ → Type 0
SolveWrites Solved proof text given written = Prints Solved proof text given written
SolveWrites Infeasible proof text given written = Prints Infeasible proof text given written
SolveWrites (Refused the.Problem number line) proof text given written = (reads text ≡ Err (Fault number line)) × (written ≡ [])
SolveWrites (ReadFailed the.Problem) proof text given written = (decided problem_rule given ≡ None) × (written ≡ [])
SolveWrites WriteFailed proof text given written = (m : Moment) × Solves text given m × IsBeginning written (solution proof m)
SolveWrites Memory proof text given written = written ≡ []
SolveWrites Ended proof text given written = ⊥
SolveWrites Valid proof text given written = ⊥
SolveWrites NotValid proof text given written = ⊥
SolveWrites (Refused the.Answer number line) proof text given written = ⊥
SolveWrites (Refused the.Commands number line) proof text given written = ⊥
SolveWrites (ReadFailed the.Answer) proof text given written = ⊥
SolveWrites (ReadFailed the.Commands) proof text given written = ⊥

-- the same of devices that tell their bytes: how many were read, and what the sink holds before and after
abbrev pub SolveOnDevices : End → Bool → Option (List ℕ) → ℕ → Option (List ℕ) → Option (List ℕ) → Type 0
SolveOnDevices end proof known count before after =
    IfSome known (λ text. IfSome before (λ held.
    (written : List ℕ) × (after ≡ Some (held ++ written)) × SolveWrites end proof text (take count text) written))

-- the same by what source and sink tell before and after
abbrev pub SolveBetween : {P O : Type 0} → source.Ghosts P → sink.Ghosts O → End → Bool → P → P → O → O → Type 0
SolveBetween input out end proof old new before after =
    SolveOnDevices end proof (text_over input.remaining input.given old new) (input.most_left old - input.most_left new) (out.contents before) (out.contents after)
