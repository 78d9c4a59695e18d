-- The turns that mark a moment by a name, and that go back to it.
use Rattle.std.specs.Prelude.{◌≡◌, ◌≢◌, ℕ, ⊤, List, Ok}
use Rattle.dimacs_text.specs.declared.command.Command.TheVariants as commands
use Rattle.dimacs_text.specs.declared.problem.Kind.{Kind}
use Rattle.dimacs_text.specs.Command.{command}
use Rattle.dimacs_text.specs.Turns.{Turn, OfLine, OfGroup}

abbrev pub GivesName : List ℕ → Turn → Type 0
GivesName name (OfLine line) = (kind : Kind) → command kind line ≡ Ok (commands.Mark name)
GivesName name (OfGroup lines) = ⊥

abbrev pub IsBack : List ℕ → Turn → Type 0
IsBack name (OfLine line) = (kind : Kind) → command kind line ≡ Ok (commands.Back name)
IsBack name (OfGroup lines) = ⊥

-- the turn gives the name to no moment
abbrev pub LeavesName : List ℕ → Turn → Type 0
LeavesName name (OfLine line) = (kind : Kind) → command kind line ≢ Ok (commands.Mark name)
LeavesName name (OfGroup lines) = ⊤
