-- Groups: the lines after `group` up to `end`, which are edits made together. The first line that is refused decides the
-- fault of the group; lines after it are passed over.
use Rattle.std.specs.Prelude.{ℕ, ◌+◌, Bool, true, false, List, [], ◌∷◌, ◌++◌, Option, Some, None, Result, Ok, Err, length, nat_lt, if◌then◌else◌}
use Rattle.dimacs_text.specs.declared.command_fault.CommandFault.{CommandFault}
use Rattle.dimacs_text.specs.declared.command_fault.CommandFault.TheVariants as fault
use Rattle.dimacs_text.specs.declared.problem.Kind.{Kind}
use Rattle.dimacs_text.specs.declared.command.Edit.{Edit}
use Rattle.dimacs_text.specs.declared.command.Command.{Command}
use Rattle.dimacs_text.specs.declared.command.Command.TheVariants as commands
use Rattle.dimacs_text.specs.declared.group.TheConstants.{GROUP_LIMIT}
use Rattle.dimacs_lines.specs.Lines.{Line}
use Rattle.dimacs_text.specs.Command.{asked}

-- ---- a line by itself

abbrev pub edit_of_command : Command → Result Edit CommandFault
edit_of_command (commands.Edit edit) = Ok edit
edit_of_command _ = Err fault.OutOfPlace

-- the edit that a line of a group gives: first its own fault, then that it is no edit
abbrev pub edit_of : Result Command CommandFault → Result Edit CommandFault
edit_of (Ok command) = edit_of_command command
edit_of (Err fault) = Err fault

-- then that so many edits stand before it
abbrev pub within_limit : ℕ → Result Edit CommandFault → Result Edit CommandFault
within_limit before (Ok edit) = if nat_lt before GROUP_LIMIT then Ok edit else Err fault.GroupTooLong
within_limit before (Err fault) = Err fault

abbrev pub edit_in : Kind → ℕ → Line → Result Edit CommandFault
edit_in kind before line = within_limit before (edit_of (asked kind line))

-- ---- the lines of a group

-- the edits before the first line that is refused, and its fault
pub record Gathered : Type 0 where
  pub edits : List Edit
  pub fault : Option CommandFault

abbrev pub with_edit : Edit → Gathered → Gathered
with_edit edit later = record later { edits = edit ∷ later.edits }

abbrev pub gathered_by : Result Edit CommandFault → Gathered → Gathered
gathered_by (Ok edit) later = with_edit edit later
gathered_by (Err fault) later = record { edits = []; fault = Some fault }

-- what the lines of a group give, of which none ends it, where so many edits stand before them
unfoldable pub gathered : Kind → ℕ → List Line → Gathered
gathered kind before [] = record { edits = []; fault = None }
gathered kind before (line ∷ lines) = gathered_by (edit_in kind before line) (gathered kind (before + 1) lines)

-- one line more: it ends the group and changes nothing, or it goes to the lines
abbrev pub and_line : Bool → List Line → Line → List Line
and_line true lines line = lines
and_line false lines line = lines ++ line ∷ []

-- ---- the same, by what the lines before gave

abbrev pub is_end_asked : Result Command CommandFault → Bool
is_end_asked (Ok commands.End) = true
is_end_asked _ = false

abbrev pub stays_or : Option CommandFault → List Edit → Result Edit CommandFault → Gathered
stays_or (Some fault) edits line = record { edits = edits; fault = Some fault }
stays_or None edits (Ok edit) = record { edits = edits ++ edit ∷ []; fault = None }
stays_or None edits (Err fault) = record { edits = edits; fault = Some fault }

abbrev pub gathered_after : Gathered → Result Command CommandFault → Gathered
gathered_after old asked = if is_end_asked asked then old else stays_or old.fault old.edits (within_limit (length old.edits) (edit_of asked))
