-- The turns of a command text: what is answered at once.
use Rattle.std.specs.Prelude.{Bool, true, false, List, [], ◌∷◌, ◌++◌, Option, Some, None}
use Rattle.std.specs.List.{fold}
use Rattle.dimacs_lines.specs.Lines.{Line}
use Rattle.dimacs_text.specs.Command.{opens_group, ends_group}

-- a line, or the lines of a group between `group` and `end`
pub data Turn : Type 0 where
  OfLine : Line → Turn
  OfGroup : List Line → Turn

-- the turns that are whole, and the lines of the group that stands open, if one does
pub record Turns : Type 0 where
  pub whole : List Turn
  pub opened : Option (List Line)

-- a line outside of a group opens one, or is a turn by itself
abbrev pub and_outside : Bool → List Turn → Line → Turns
and_outside true whole line = record { whole = whole; opened = Some [] }
and_outside false whole line = record { whole = whole ++ OfLine line ∷ []; opened = None }

-- a line of a group ends it, which makes the group a turn, or is one of its lines
abbrev pub and_inside : Bool → List Turn → List Line → Line → Turns
and_inside true whole lines line = record { whole = whole ++ OfGroup lines ∷ []; opened = None }
and_inside false whole lines line = record { whole = whole; opened = Some (lines ++ line ∷ []) }

abbrev pub and_turn_by : Option (List Line) → List Turn → Line → Turns
and_turn_by None whole line = and_outside (opens_group line) whole line
and_turn_by (Some lines) whole line = and_inside (ends_group line) whole lines line

-- one line more
abbrev pub and_turn : Turns → Line → Turns
and_turn turns line = and_turn_by turns.opened turns.whole line

abbrev pub no_turns : Turns
no_turns = record { whole = []; opened = None }

-- the turns of lines, one after the other; a group that they do not end is no turn
abbrev pub turns_of : List Line → Turns
turns_of lines = fold and_turn no_turns lines
