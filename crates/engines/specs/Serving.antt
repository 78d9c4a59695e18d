-- What a session has done at each of its calls, over what has come so far of its commands.
use Rattle.std.specs.Prelude.{◌≡◌, ℕ, ◌+◌, List, ◌++◌, length, ◌⊎◌, Option, Result, MatchResult, OnOk}
use Rattle.std.specs.Borrow.{Bor}
use Rattle.std.specs.Io.KnownBytes.{Appends, IsAtEnd}
use Rattle.dimacs_io.specs.Device.{IsBeginning, AppendsBeginning, CountsFailure, RisesBy, WritesUpTo}
use Rattle.dimacs_io.specs.declared.device.LastCall.{LastCall}
use Rattle.dimacs_io.specs.declared.device.LastCall.TheVariants as last
use Rattle.dimacs_io.specs.declared.device.Sink as sink
use Rattle.dimacs_io.specs.declared.device.Source as source
use Rattle.dimacs_lines.specs.Cut.{Cut, HoldsRest}
use Rattle.dimacs_text.specs.Group.{Gathered}
use Rattle.dimacs_lines.specs.Lines.{Line, parts_of, lines_of}
use Rattle.dimacs_text.specs.Turns.{Turn}
use Rattle.session.specs.Step.{SessionState}
use Rattle.session.specs.Turns.{IsPassedAs, gathered_in, turns_by}
use Rattle.runs.specs.Reading.{SourceGives}
use Rattle.runs.specs.declared.end.Text.TheVariants as the
use Rattle.runs.specs.declared.end.End.{End}
use Rattle.runs.specs.declared.end.End.TheVariants.{Ended, ReadFailed, WriteFailed}
use Rattle.engines.specs.Printing.{outcome_text}
use Rattle.engines.specs.Run.{Answers, AnswersTurns, reply_count, turns_in}

-- what a sink says of itself: the bytes that it holds, where it says them, and how many flushes went well
pub record Output : Type 0 where
  pub contents : Option (List ℕ)
  pub flushes : ℕ

abbrev pub output_of : {O : Type 0} → sink.Ghosts O → O → Output
output_of device out = record { contents = device.contents out; flushes = device.flushes out }

-- after the lines of the group that stands open, the turn that a line makes whole is answered by one step
abbrev pub AnswersLine : SessionState → Option (List Line) → Line → List ℕ → SessionState → Type 0
AnswersLine old opened line text new = AnswersTurns old (turns_by opened line).whole text new

-- one flush a turn, or none where the only turn met a failed call
abbrev pub FlushesTurns : {E : Type 0} → Result (Unit {0}) E → List Turn → ℕ → ℕ → Type 0
FlushesTurns result turns old new = MatchResult result (λ _. RisesBy (length turns) old new) (λ _. (length turns ≡ 1) × (new ≡ old))

-- a line was answered, up to the whole answer was written, and where all of it was, the group that stands open holds its lines
pub record ServesLine {E : Type 0} (result : Result (Unit {0}) E) (old : SessionState) (opened : Option (List Line)) (line : Line) (new : SessionState) (group : Option Gathered) (before after : Output) : Type 0 where
  pub text : List ℕ
  pub answers : AnswersLine old opened line text new
  pub writes : WritesUpTo result before.contents after.contents text
  pub flushed : FlushesTurns result (turns_by opened line).whole before.flushes after.flushes
  pub holds : OnOk result (group ≡ gathered_in new (turns_by opened line).opened)

-- the line that is passed is served, whichever it is, where the group that stood open held these lines
abbrev pub ServesPassed : {E : Type 0} → Result (Unit {0}) E → Option (Bor (List ℕ)) → SessionState → Option Gathered → Output → SessionState → Option Gathered → Output → Type 0
ServesPassed result passed old group before new group' after =
    (line : Line) → IsPassedAs passed line → (opened : Option (List Line)) → group ≡ gathered_in old opened
    → ServesLine result old opened line new group' before after

-- where all that was written before is passed on, so is what was written now; or the last call is the one that failed
abbrev pub StaysPassedOn : {E : Type 0} → Result (Unit {0}) E → LastCall → LastCall → Type 0
StaysPassedOn result before now = MatchResult result (λ _. before ≡ last.Flush → now ≡ last.Flush) (λ _. now ≡ last.Failure)

-- the same of a sink, which counts a failed call
pub record LeavesPassedOn {O E : Type 0} (device : sink.Ghosts O) (result : Result (Unit {0}) E) (old new : O) : Type 0 where
  pub failed : CountsFailure result (device.failures old) (device.failures new)
  pub stays : StaysPassedOn result (device.last_call old) (device.last_call new)

-- the answers to these lines were written, each followed by a flush, and led from the opening to this moment
pub record Answered (opening : SessionState) (lines : List Line) (last : SessionState) (before after : Output) : Type 0 where
  pub written : List ℕ
  pub answers : Answers opening lines written last
  pub appends : Appends before.contents after.contents written
  pub flushed : RisesBy (reply_count lines) before.flushes after.flushes

-- the answers to the first of these lines were written up to a failed call, with one flush less than there are answers
pub record Stopped (opening : SessionState) (lines : List Line) (before after : Output) : Type 0 where
  pub front : List Line
  pub begins : IsBeginning front lines
  pub whole : List ℕ
  pub last : SessionState
  pub answers : Answers opening front whole last
  pub appends : AppendsBeginning before.contents after.contents whole
  pub flushes : ℕ
  pub count : reply_count front ≡ flushes + 1
  pub flushed : RisesBy flushes before.flushes after.flushes

-- each turn of the lines that were ended is answered, the group that stands open holds its lines, and the cutter has what stands after the last line feed
pub record Stands (opening : SessionState) (given : List ℕ) (present : SessionState) (group : Option Gathered) (cutter : Cut) (before now : Output) : Type 0 where
  pub answered : Answered opening (parts_of given).ended present before now
  pub gathers : group ≡ gathered_in present (turns_in (parts_of given).ended).opened
  pub holds : HoldsRest cutter given

-- what a call leaves that takes more of the commands, after which `given` has come
abbrev pub GoesOn : {E : Type 0} → Result (Unit {0}) E → SessionState → List ℕ → SessionState → Option Gathered → Cut → Output → Output → Type 0
GoesOn result opening given present group cutter before now =
    MatchResult result (λ _. Stands opening given present group cutter before now) (λ _. Stopped opening (parts_of given).ended before now)

-- what a call leaves that answers the last line of the commands too
abbrev pub AnswersAll : {E : Type 0} → Result (Unit {0}) E → SessionState → List ℕ → SessionState → Output → Output → Type 0
AnswersAll result opening given present before now =
    MatchResult result (λ _. Answered opening (lines_of given) present before now) (λ _. Stopped opening (lines_of given) before now)

-- where a session stands in its commands: its state, the group that stands open, the cutter, and what its sink tells
pub record Progress : Type 0 where
  pub state : SessionState
  pub group : Option Gathered
  pub cutter : Cut
  pub output : Output

abbrev pub progress : SessionState → Option Gathered → Cut → Output → Progress
progress state group cutter output = record { state = state; group = group; cutter = cutter; output = output }

-- a piece more of the commands was taken, whatever came before it
abbrev pub TakesPiece : {E : Type 0} → Result (Unit {0}) E → List ℕ → Progress → Progress → Type 0
TakesPiece result piece old new =
    (opening : SessionState) (given : List ℕ) (before : Output) → Stands opening given old.state old.group old.cutter before old.output
    → GoesOn result opening (given ++ piece) new.state new.group new.cutter before new.output

-- what stands after the last line feed was taken, whatever came before it
abbrev pub TakesRest : {E : Type 0} → Result (Unit {0}) E → Progress → SessionState → Output → Type 0
TakesRest result old new after =
    (opening : SessionState) (given : List ℕ) (before : Output) → Stands opening given old.state old.group old.cutter before old.output
    → AnswersAll result opening given new before after

-- how the commands end, of which `given` has come and `rest` is known to be left
abbrev pub CommandsEnd : End → SessionState → List ℕ → Option (List ℕ) → Output → Output → Type 0
CommandsEnd Ended opening given rest before now = IsAtEnd rest × (last : SessionState) × Answered opening (lines_of given) last before now
CommandsEnd (ReadFailed the.Commands) opening given rest before now = (last : SessionState) × Answered opening (parts_of given).ended last before now
CommandsEnd WriteFailed opening given rest before now =
    Stopped opening (parts_of given).ended before now ⊎ (IsAtEnd rest × Stopped opening (lines_of given) before now)
CommandsEnd _ opening given rest before now = ⊥

-- the commands that a source gave were served to this end
abbrev pub ServesCommands : {C O : Type 0} → source.Ghosts C → sink.Ghosts O → End → SessionState → C → C → O → O → Type 0
ServesCommands script out end opening old new before after =
    (given : List ℕ) × SourceGives script.remaining script.given script.most_left old new given
    × CommandsEnd end opening given (script.remaining new) (output_of out before) (output_of out after)

-- ---- an open session

-- what is told of the present moment was written up to a failed call, not passed on, and no command was read
pub record StopsTelling {C O : Type 0} (out : sink.Ghosts O) (end : End) (opening : SessionState) (old new : C) (before after : O) : Type 0 where
  pub failed : end ≡ WriteFailed
  pub unread : new ≡ old
  pub appends : AppendsBeginning (out.contents before) (out.contents after) (outcome_text opening.moments.present)
  pub flushed : out.flushes after ≡ out.flushes before

-- it was written and passed on, and then the commands that a source gave were served to this end
pub record TellsAndServes {C O : Type 0} (script : source.Ghosts C) (out : sink.Ghosts O) (end : End) (opening : SessionState) (old new : C) (before after : O) : Type 0 where
  pub told : O
  pub appends : Appends (out.contents before) (out.contents told) (outcome_text opening.moments.present)
  pub flushed : RisesBy 1 (out.flushes before) (out.flushes told)
  pub serves : ServesCommands script out end opening old new told after

-- an open session was served to this end
abbrev pub ServesSession : {C O : Type 0} → source.Ghosts C → sink.Ghosts O → End → SessionState → C → C → O → O → Type 0
ServesSession script out end opening old new before after =
    StopsTelling out end opening old new before after ⊎ TellsAndServes script out end opening old new before after
