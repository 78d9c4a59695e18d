use Rattle.std.proofs.Common.{◌≡◌, ◌+◌, not, get_or, refl, sym, ap, ◌∙◌, arith, rules}
use Rattle.dimacs_lines.proofs.PlaceLemmas.{place_from}
use Rattle.dimacs_lines.proofs.WordLemmas.{is_solid}
use Rattle.dimacs_lines.proofs.front.word_from.Goals as goal

pub returns-then-not-is_blank_byte-clause-place : goal.returns-then-not-is_blank_byte-clause-place
returns-then-not-is_blank_byte-clause-place c =
    let space : get_or c.args.text.now c.args.from 0 ≡ 32 = search rules in
    place_from is_solid c.args.text.now c.args.from (c.args.from + 1) (omega arith) (omega arith) (λ k low high. let here : k ≡ c.args.from = omega arith in rw (here, space) refl)
    (λ lt. ap not (sym c.is_blank_byte.ensures ∙ c.if-not-is_blank_byte.true))
