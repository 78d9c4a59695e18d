use Rattle.std.proofs.Common.{arith}
use Rattle.dimacs_lines.proofs.FrontLemmas.{natural_read}
use Rattle.dimacs_lines.proofs.front.next_natural.Goals as goal

pub returns-clause-word : goal.returns-clause-word
returns-clause-word c =
    let begin = c.word_from-begin in
    natural_read c.args.text.now c.args.from begin.result c.some_digits.result begin.ensures.place (omega (arith, begin.ensures.place, c.if-begin-from.false)) c.some_digits.ensures.digits
