-- What lines of an answer text say with one line more.
use Rattle.std.proofs.Common.{◌≡◌, List, [], ◌∷◌, ◌++◌, None, refl, ℤ}
use Rattle.std.specs.List.{flat_map}
use Rattle.dimacs_lines.proofs.LineLemmas.{flat_map_push}
use Rattle.dimacs_lines.specs.Lines.{Line}
use Rattle.answer_text.specs.Answer.{said_of, and_said, values_in, flows_in, potentials_in, shortages_in, cut_in, first_value, or_value}

first_value-append : (xs ys : List ℤ) → first_value (xs ++ ys) ≡ or_value (first_value xs) ys
first_value-append [] ys = refl
first_value-append (x ∷ xs) ys = refl

pub said_of_push : (before : List Line) (line : Line) → said_of (before ++ line ∷ []) ≡ and_said (said_of before) line
unfolding said_of and_said
said_of_push before line =
    rw (flat_map_push values_in before line, flat_map_push flows_in before line, flat_map_push potentials_in before line, first_value-append (flat_map values_in before) (values_in line), flat_map_push shortages_in before line, flat_map_push cut_in before line, first_value-append (flat_map shortages_in before) (shortages_in line)) refl

pub said_of_nothing : said_of [] ≡ record { value = None; flows = []; potentials = []; shortage = None; cut = [] }
unfolding said_of
said_of_nothing = refl
