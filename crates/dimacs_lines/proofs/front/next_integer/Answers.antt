use Rattle.std.proofs.Common.{◌≡◌, ◌<◌, ◌^◌, pos, ◌-ℤ◌, w64, get_or, arith, rules}
use Rattle.std.proofs.lemmas.Int.{to_z_pos, to_z-of_z}
use Rattle.dimacs_lines.proofs.FrontLemmas.{next_natural_is, next_negative_is, integer_from_natural, below_zero}
use Rattle.dimacs_lines.proofs.front.next_integer.Goals as goal

pub returns-then-text-begin-eq45-clause-word : goal.returns-then-text-begin-eq45-clause-word
returns-then-text-begin-eq45-clause-word c =
    let begin = c.word_from-begin in let size = c.in_ok-size.size in
    let low : size < 10 ^ 18 = c.in_ok-size.ensures.below in
    let minus : get_or c.args.text.now begin.result 0 ≡ 45 = search rules in
    rw (to_z_pos w64 size (omega arith), to_z-of_z w64 (pos 0 -ℤ pos size) (search rules), below_zero size)
    (next_negative_is c.args.text.now c.args.from begin.result c.in_ok-size.end size begin.ensures.place (omega (arith, begin.ensures.place, c.if-begin-from.false)) c.if-begin-text.true minus c.in_ok-size.ensures.digits)

pub returns-clause-word : goal.returns-clause-word
returns-clause-word c =
    let begin = c.word_from-begin in let size = c.in_ok-size-2.size in
    let low : size < 10 ^ 18 = c.in_ok-size-2.ensures.below in
    rw (to_z_pos w64 size (omega arith))
    (integer_from_natural c.args.text.now c.args.from size c.in_ok-size-2.end (next_natural_is c.args.text.now c.args.from begin.result c.in_ok-size-2.end size begin.ensures.place (omega (arith, begin.ensures.place, c.if-begin-from.false)) c.in_ok-size-2.ensures.digits))
