-- The turns of a text that make a change, and those that take one back, make it again or show the moment.
use Rattle.std.specs.Prelude.{◌≡◌, ◌≢◌, ℕ, ⊤, Bool, true, false, List, [], ◌∷◌, Ok, MatchResult}
use Rattle.dimacs_io.specs.Line.{refusal_line}
use Rattle.dimacs_text.specs.declared.command.Command.{Command}
use Rattle.dimacs_text.specs.declared.command.Command.TheVariants as commands
use Rattle.dimacs_text.specs.declared.problem.Kind.{Kind}
use Rattle.dimacs_text.specs.Command.{command}
use Rattle.dimacs_text.specs.Turns.{Turn, OfLine, OfGroup}

abbrev pub IsEditCommand : Command → Type 0
IsEditCommand (commands.Edit edit) = ⊤
IsEditCommand _ = ⊥

-- an edit, for each kind that has it, or a group
abbrev pub MakesEdits : Turn → Type 0
MakesEdits (OfLine line) = (kind : Kind) → MatchResult (command kind line) IsEditCommand (λ number. ⊤)
MakesEdits (OfGroup lines) = ⊤

abbrev pub IsUndo : Turn → Type 0
IsUndo (OfLine line) = (kind : Kind) → command kind line ≡ Ok commands.Undo
IsUndo (OfGroup lines) = ⊥

abbrev pub IsRedo : Turn → Type 0
IsRedo (OfLine line) = (kind : Kind) → command kind line ≡ Ok commands.Redo
IsRedo (OfGroup lines) = ⊥

-- the commands that show the present moment: `show`, or `proof`
abbrev pub shown_by : Bool → Command
shown_by true = commands.Proof
shown_by false = commands.Show

abbrev pub IsShow : Bool → Turn → Type 0
IsShow proof (OfLine line) = (kind : Kind) → command kind line ≡ Ok (shown_by proof)
IsShow proof (OfGroup lines) = ⊥

-- of each of them
abbrev pub AllTurns : (Turn → Type 0) → List Turn → Type 0
AllTurns P [] = ⊤
AllTurns P (turn ∷ turns) = P turn × AllTurns P turns

-- none of the replies is a refusal
abbrev pub NoneRefuses : List (List ℕ) → Type 0
NoneRefuses [] = ⊤
NoneRefuses (text ∷ texts) = ((number : ℕ) → text ≢ refusal_line number) × NoneRefuses texts
