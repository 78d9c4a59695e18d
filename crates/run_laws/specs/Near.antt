-- The edits of the turns of a text.
use Rattle.std.specs.Prelude.{ℕ, List, [], ◌∷◌, Ok, Result}
use Rattle.dimacs_text.specs.declared.command.Command.{Command}
use Rattle.dimacs_text.specs.declared.command.Command.TheVariants as commands
use Rattle.dimacs_text.specs.declared.command.Edit.{Edit}
use Rattle.dimacs_text.specs.declared.problem.Kind.{Kind}
use Rattle.dimacs_text.specs.Command.{command}
use Rattle.dimacs_text.specs.Group.{gathered}
use Rattle.dimacs_text.specs.Turns.{Turn, OfLine, OfGroup}

-- the edit of a command, if it is one
abbrev pub edits_of_command : Result Command ℕ → List Edit
edits_of_command (Ok (commands.Edit edit)) = edit ∷ []
edits_of_command _ = []

-- the edits of a turn: of its line, or of its group
abbrev pub edits_of_turn : Kind → Turn → List Edit
edits_of_turn kind (OfLine line) = edits_of_command (command kind line)
edits_of_turn kind (OfGroup lines) = (gathered kind 0 lines).edits

-- those of each turn
abbrev pub groups_of : Kind → List Turn → List (List Edit)
groups_of kind [] = []
groups_of kind (turn ∷ turns) = edits_of_turn kind turn ∷ groups_of kind turns
