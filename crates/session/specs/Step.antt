-- The steps of a session: what a line or a group asks for, what it does to the moments, and what is replied.
use Rattle.std.specs.Prelude.{◌≡◌, ℕ, Bool, true, false, List, [], length, ◌⊎◌, Option, None, Some, MatchResult}
use Rattle.dimacs_text.specs.declared.command_fault.CommandFault.{CommandFault}
use Rattle.dimacs_text.specs.declared.command.Edit.{Edit}
use Rattle.dimacs_text.specs.declared.command.Command.{Command}
use Rattle.dimacs_text.specs.declared.command.Command.TheVariants as commands
use Rattle.dimacs_text.specs.Command.{command}
use Rattle.dimacs_text.specs.CommandFault.{number_of as number_in_command}
use Rattle.dimacs_text.specs.Group.{Gathered, gathered}
use Rattle.dimacs_lines.specs.Lines.{Line}
use Rattle.dimacs_text.specs.Turns.{Turn, OfLine, OfGroup}
use Rattle.history.specs.Boards.{Timeline, Advances, StepsBack, StepsForward}
use Rattle.network.specs.Edited.{edited, edited_all}
use Rattle.flow_solver.specs.Moment.{Moment}
use Rattle.session.specs.declared.marks.Mark.{Mark}
use Rattle.session.specs.declared.refusal.StepRefusal.TheVariants as refusal
use Rattle.session.specs.Marks.{marked, has_place, with_mark, up_to, IsMovedTo}
use Rattle.session.specs.Refusal.{number_of}
use Rattle.session.specs.Session.{Stack, IsEdited, AreEdited, present_kind}

-- what a session has come to: its moments in the order of time, and the marks of moments
pub record SessionState : Type 0 where
  pub moments : Timeline Moment
  pub marks : List Mark

abbrev pub state_of : Stack → SessionState
state_of s = record { moments = s.moments; marks = s.marks }

-- a reply tells the verdict of the present moment, shows its solution, with its potentials or without, or refuses by a number
pub data Reply : Type 0 where
  TellsVerdict : Reply
  Shows : Bool → Reply
  Refuses : ℕ → Reply

-- a refused command changes nothing
pub record IsRefused (number : ℕ) (old : SessionState) (reply : Reply) (new : SessionState) : Type 0 where
  pub reply_is : reply ≡ Refuses number
  pub unchanged : new ≡ old

-- the solution is shown, and nothing changes
pub record IsShown (proof : Bool) (old : SessionState) (reply : Reply) (new : SessionState) : Type 0 where
  pub reply_is : reply ≡ Shows proof
  pub unchanged : new ≡ old

-- the old present is the last of the past, the new present answers the edited instance, the future is empty, and the
-- marks of the moments that go are taken away
pub record IsApplied (edit : Edit) (old : SessionState) (reply : Reply) (new : SessionState) : Type 0 where
  pub reply_is : reply ≡ TellsVerdict
  pub edited_to : IsEdited edit old.moments.present new.moments.present
  pub advances : Advances old.moments new.moments
  pub marks : new.marks ≡ up_to (length old.moments.past) old.marks

-- the same of edits that are made one after the other, as one step
pub record AreApplied (edits : List Edit) (old : SessionState) (reply : Reply) (new : SessionState) : Type 0 where
  pub reply_is : reply ≡ TellsVerdict
  pub edited_to : AreEdited edits old.moments.present new.moments.present
  pub advances : Advances old.moments new.moments
  pub marks : new.marks ≡ up_to (length old.moments.past) old.marks

-- the last moment of the past is the present one
pub record IsUndone (old : SessionState) (reply : Reply) (new : SessionState) : Type 0 where
  pub reply_is : reply ≡ TellsVerdict
  pub back : StepsBack old.moments new.moments
  pub marks : new.marks ≡ old.marks

-- the first moment of the future is the present one
pub record IsRedone (old : SessionState) (reply : Reply) (new : SessionState) : Type 0 where
  pub reply_is : reply ≡ TellsVerdict
  pub forward : StepsForward old.moments new.moments
  pub marks : new.marks ≡ old.marks

-- the name's mark stands on the present moment
pub record IsPut (name : List ℕ) (old : SessionState) (reply : Reply) (new : SessionState) : Type 0 where
  pub reply_is : reply ≡ TellsVerdict
  pub moments : new.moments ≡ old.moments
  pub marks : new.marks ≡ with_mark old.marks name (length old.moments.past)

-- that moment is the present one
pub record IsMoved (moment : ℕ) (old : SessionState) (reply : Reply) (new : SessionState) : Type 0 where
  pub reply_is : reply ≡ TellsVerdict
  pub moved : IsMovedTo moment old.moments new.moments
  pub marks : new.marks ≡ old.marks

-- an edit that the instance allows is applied, or refused for want of memory; any other is refused by its number
abbrev pub StepOfEdit : Edit → SessionState → Reply → SessionState → Type 0
StepOfEdit edit old reply new = MatchResult (edited old.moments.present.instance edit) (λ _. IsApplied edit old reply new ⊎ IsRefused (number_of refusal.Memory) old reply new) (λ number. IsRefused number old reply new)

-- a name is marked where it has a place, and refused elsewhere
abbrev pub StepOfMark : Bool → List ℕ → SessionState → Reply → SessionState → Type 0
StepOfMark true name old reply new = IsPut name old reply new
StepOfMark false name old reply new = IsRefused (number_of refusal.TooManyMarks) old reply new

-- a step back or forward to the moment that bears a name, or the refusal where none does
abbrev pub StepOfBack : Option ℕ → SessionState → Reply → SessionState → Type 0
StepOfBack (Some moment) old reply new = IsMoved moment old reply new
StepOfBack None old reply new = IsRefused (number_of refusal.NoSuchMark) old reply new

-- a step by a command; a group is no step by one line, and so neither of the lines round it is
abbrev pub StepBy : Command → SessionState → Reply → SessionState → Type 0
StepBy (commands.Edit edit) old reply new = StepOfEdit edit old reply new
StepBy commands.Undo old reply new = IsUndone old reply new ⊎ (old.moments.past ≡ []) × IsRefused (number_of refusal.NothingToUndo) old reply new
StepBy commands.Redo old reply new = IsRedone old reply new ⊎ (old.moments.future ≡ []) × IsRefused (number_of refusal.NothingToRedo) old reply new
StepBy commands.Show old reply new = IsShown false old reply new
StepBy commands.Proof old reply new = IsShown true old reply new
StepBy commands.Group old reply new = IsRefused (number_of refusal.OutOfPlace) old reply new
StepBy commands.End old reply new = IsRefused (number_of refusal.OutOfPlace) old reply new
StepBy (commands.Mark name) old reply new = StepOfMark (has_place old.marks name) name old reply new
StepBy (commands.Back name) old reply new = StepOfBack (marked old.marks name) old reply new

-- a step by a line: that of its command, or its refusal by the number of its first check that fails
abbrev pub Step : SessionState → Line → Reply → SessionState → Type 0
Step old line reply new =
    MatchResult (command (present_kind old.moments) line) (λ c. StepBy c old reply new) (λ number. IsRefused number old reply new)

-- a group whose edits the instance allows is refused by its first line that is refused by itself; where there is none it is applied, or refused for want of memory
abbrev pub StepOfEdits : Option CommandFault → List Edit → SessionState → Reply → SessionState → Type 0
StepOfEdits (Some fault) edits old reply new = IsRefused (number_in_command fault) old reply new
StepOfEdits None edits old reply new = AreApplied edits old reply new ⊎ IsRefused (number_of refusal.Memory) old reply new

-- a step by a group, of the edits before its first line that is refused by itself: the first of them that the instance refuses, as those before it left it, decides the number
abbrev pub StepOfGroup : Gathered → SessionState → Reply → SessionState → Type 0
StepOfGroup group old reply new =
    MatchResult (edited_all old.moments.present.instance group.edits) (λ _. StepOfEdits group.fault group.edits old reply new) (λ number. IsRefused number old reply new)

-- a step by a turn: by its line, or by all lines of its group
abbrev pub TurnStep : SessionState → Turn → Reply → SessionState → Type 0
TurnStep old (OfLine line) reply new = Step old line reply new
TurnStep old (OfGroup lines) reply new = StepOfGroup (gathered (present_kind old.moments) 0 lines) old reply new
