-- Lines that follow those that a text has ended.
use Rattle.std.proofs.Common.{◌≡◌, true, cond, List, [], ◌∷◌, ◌++◌, refl, append_assoc, arith}
use Rattle.std.proofs.lemmas.List.{length-append}
use Rattle.std.proofs.lemmas.Bool.Decides.{nat_tests}
use Rattle.dimacs_lines.specs.Lines.{Line, Parts, last_line, is_too_long}
use Rattle.dimacs_lines.specs.Stream.{settled_lines}
use Rattle.dimacs_lines.proofs.LineLemmas.{joined_parts}

pub too_long-append : (line more : Line) → is_too_long line ≡ true → is_too_long (line ++ more) ≡ true
too_long-append line more long = grind (arith, nat_tests, length-append)

pub last_line-too_long : (line : Line) → is_too_long line ≡ true → last_line line ≡ line ∷ []
last_line-too_long [] long = absurd cc
last_line-too_long (byte ∷ bytes) long = refl

-- lines that follow those that are ended: a line that is too long stays so
pub record GoesOn (parts : Parts) (lines : List Line) : Type 0 where
  pub tail : List Line
  pub lines_are : lines ≡ parts.ended ++ tail
  pub too_long : is_too_long parts.rest ≡ true → (line : Line) × (others : List Line) × (tail ≡ line ∷ others) × (is_too_long line ≡ true)

pub lines_go_on : (ended : List Line) (rest : Line) (lines : List Line) (more : Line) → GoesOn (record { ended = ended; rest = rest }) (let j = joined_parts ended rest lines more in j.ended ++ last_line j.rest)
lines_go_on ended rest [] more = record {
  tail = last_line (rest ++ more);
  lines_are = refl;
  too_long = λ long. (rest ++ more, [], last_line-too_long (rest ++ more) (too_long-append rest more long), too_long-append rest more long);
}
lines_go_on ended rest (line ∷ lines) more = record {
  tail = (rest ++ line) ∷ (lines ++ last_line more);
  lines_are = append_assoc ended ((rest ++ line) ∷ lines) (last_line more);
  too_long = λ long. (rest ++ line, lines ++ last_line more, refl, too_long-append rest line long);
}

pub settled_go_on : (ended : List Line) (rest : Line) (lines : List Line) (more : Line) → GoesOn (record { ended = ended; rest = rest }) (settled_lines (joined_parts ended rest lines more))
settled_go_on ended rest [] more = record {
  tail = cond (is_too_long (rest ++ more)) ((rest ++ more) ∷ []) [];
  lines_are = refl;
  too_long = λ long. (rest ++ more, [], rw (too_long-append rest more long) refl, too_long-append rest more long);
}
settled_go_on ended rest (line ∷ lines) more = record {
  tail = (rest ++ line) ∷ (lines ++ cond (is_too_long more) (more ∷ []) []);
  lines_are = append_assoc ended ((rest ++ line) ∷ lines) (cond (is_too_long more) (more ∷ []) []);
  too_long = λ long. (rest ++ line, lines ++ cond (is_too_long more) (more ∷ []) [], refl, too_long-append rest line long);
}
