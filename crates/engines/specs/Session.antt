-- What a session writes.
use Rattle.std.specs.Prelude.{◌≡◌, ℕ, ◌+◌, ◌-◌, List, [], ◌++◌, take, ◌⊎◌, Option, None, Some, Err, IfSome}
use Rattle.dimacs_io.specs.Device.{IsBeginning, RisesBy, text_over}
use Rattle.dimacs_io.specs.declared.device.Sink as sink
use Rattle.dimacs_io.specs.declared.device.Source as source
use Rattle.dimacs_lines.specs.declared.fault.TextFault.TheVariants.{Fault}
use Rattle.dimacs_lines.specs.Lines.{Line, parts_of, lines_of}
use Rattle.dimacs_lines.specs.Stream.{decided}
use Rattle.dimacs_text.specs.Reading.{ProblemValue, problem_rule, reads}
use Rattle.session.specs.Step.{SessionState}
use Rattle.runs.specs.declared.end.Text.TheVariants as the
use Rattle.runs.specs.declared.end.End.{End}
use Rattle.runs.specs.declared.end.End.TheVariants.{Solved, Infeasible, Ended, Valid, NotValid, Refused, ReadFailed, WriteFailed, Memory}
use Rattle.runs.specs.Reading.{IsProblemText}
use Rattle.engines.specs.Printing.{outcome_text}
use Rattle.engines.specs.Run.{Answers, reply_count}
use Rattle.engines.specs.Opening.{Opens}

-- the printing of a run over these lines: what is told of the opening, and the replies
pub record PrintsRun (problem : ProblemValue) (extra : ℕ) (lines : List Line) (written : List ℕ) : Type 0 where
  pub opening : SessionState
  pub opens : Opens problem extra opening
  pub last : SessionState
  pub replies : List ℕ
  pub answers : Answers opening lines replies last
  pub written_is : written ≡ outcome_text opening.moments.present ++ replies

-- a beginning of the printing of a run over the first of these lines
pub record PrintsBeginning (problem : ProblemValue) (extra : ℕ) (lines : List Line) (written : List ℕ) : Type 0 where
  pub front : List Line
  pub begins : IsBeginning front lines
  pub whole : List ℕ
  pub prints : PrintsRun problem extra front whole
  pub part : IsBeginning written whole

-- a beginning of the printing of a run over the lines that were ended, or over all lines where the whole command text was given
abbrev pub PrintsPart : ProblemValue → ℕ → List ℕ → List ℕ → List ℕ → Type 0
PrintsPart problem extra commands given written =
    PrintsBeginning problem extra (parts_of given).ended written ⊎ ((given ≡ commands) × PrintsBeginning problem extra (lines_of commands) written)

-- what was written, by how the session ends, over a problem text, a command text, and the first bytes of each that were given
abbrev pub SessionWrites : End → ℕ → List ℕ → List ℕ → List ℕ → List ℕ → List ℕ → Type 0
SessionWrites Ended extra problem_text problem_given commands given written =
    (problem : ProblemValue) × IsProblemText problem_text problem_given problem × PrintsRun problem extra (lines_of commands) written
SessionWrites (ReadFailed the.Commands) extra problem_text problem_given commands given written =
    (problem : ProblemValue) × IsProblemText problem_text problem_given problem × PrintsRun problem extra (parts_of given).ended written
SessionWrites WriteFailed extra problem_text problem_given commands given written =
    (problem : ProblemValue) × IsProblemText problem_text problem_given problem × PrintsPart problem extra commands given written
SessionWrites (Refused the.Problem number line) extra problem_text problem_given commands given written = (reads problem_text ≡ Err (Fault number line)) × (written ≡ [])
SessionWrites (ReadFailed the.Problem) extra problem_text problem_given commands given written = (decided problem_rule problem_given ≡ None) × (written ≡ [])
SessionWrites Memory extra problem_text problem_given commands given written = written ≡ []
SessionWrites Solved extra problem_text problem_given commands given written = ⊥
SessionWrites Infeasible extra problem_text problem_given commands given written = ⊥
SessionWrites Valid extra problem_text problem_given commands given written = ⊥
SessionWrites NotValid extra problem_text problem_given commands given written = ⊥
SessionWrites (Refused the.Answer number line) extra problem_text problem_given commands given written = ⊥
SessionWrites (Refused the.Commands number line) extra problem_text problem_given commands given written = ⊥
SessionWrites (ReadFailed the.Answer) extra problem_text problem_given commands given written = ⊥

-- the same of devices that tell their bytes: how many were read, and what the sink holds before and after
abbrev pub SessionOnDevices : End → ℕ → Option (List ℕ) → ℕ → Option (List ℕ) → ℕ → Option (List ℕ) → Option (List ℕ) → Type 0
SessionOnDevices end extra problem_known problem_count commands_known commands_count before after =
    IfSome problem_known (λ problem_text. IfSome commands_known (λ commands. IfSome before (λ held.
    (written : List ℕ) × (after ≡ Some (held ++ written))
    × SessionWrites end extra problem_text (take problem_count problem_text) commands (take commands_count commands) written)))

-- the same by what sources and sink tell before and after
abbrev pub SessionBetween : {P C O : Type 0} → source.Ghosts P → source.Ghosts C → sink.Ghosts O → End → ℕ → P → P → C → C → O → O → Type 0
SessionBetween problem script out end extra old new asked served before after =
    SessionOnDevices end extra (text_over problem.remaining problem.given old new) (problem.most_left old - problem.most_left new)
    (text_over script.remaining script.given asked served) (script.most_left asked - script.most_left served) (out.contents before) (out.contents after)

-- how many flushes of the sink went well, by how the session ends, over a command text and the first bytes of it that were given: one
-- after what is told of the opening, and one after each reply; where a write failed, one for each of these but the one that it stopped
abbrev pub SessionFlushes : End → List ℕ → List ℕ → ℕ → ℕ → Type 0
SessionFlushes Ended commands given old new = RisesBy (1 + reply_count (lines_of commands)) old new
SessionFlushes (ReadFailed the.Commands) commands given old new = RisesBy (1 + reply_count (parts_of given).ended) old new
SessionFlushes WriteFailed commands given old new =
    (front : List Line) × (IsBeginning front (parts_of given).ended ⊎ ((given ≡ commands) × IsBeginning front (lines_of commands))) × RisesBy (reply_count front) old new
SessionFlushes _ commands given old new = new ≡ old

-- the same of a source that tells its bytes
abbrev pub FlushesOnDevices : End → Option (List ℕ) → ℕ → ℕ → ℕ → Type 0
FlushesOnDevices end commands_known commands_count old new = IfSome commands_known (λ commands. SessionFlushes end commands (take commands_count commands) old new)

-- the same by what source and sink tell before and after
abbrev pub FlushesBetween : {C O : Type 0} → source.Ghosts C → sink.Ghosts O → End → C → C → O → O → Type 0
FlushesBetween script out end asked served before after =
    FlushesOnDevices end (text_over script.remaining script.given asked served) (script.most_left asked - script.most_left served) (out.flushes before) (out.flushes after)
