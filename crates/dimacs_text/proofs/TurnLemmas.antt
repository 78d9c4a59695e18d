-- The turns of lines, with one line more.
use Rattle.std.proofs.Common.{◌≡◌, List, [], ◌∷◌, ◌++◌}
use Rattle.std.proofs.lemmas.List.Sums.{fold-append}
use Rattle.dimacs_lines.specs.Lines.{Line}
use Rattle.dimacs_text.specs.Turns.{turns_of, and_turn, no_turns}

pub one_line_more : (lines : List Line) (line : Line) → turns_of (lines ++ line ∷ []) ≡ and_turn (turns_of lines) line
one_line_more lines line = fold-append and_turn no_turns lines (line ∷ [])
