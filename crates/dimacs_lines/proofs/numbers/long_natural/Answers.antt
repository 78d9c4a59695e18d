use Rattle.std.proofs.Common.{sym, arith, rules}
use Rattle.std.proofs.lemmas.List.{take-append-drop}
use Rattle.dimacs_lines.proofs.NumberLemmas.{joined_value}
use Rattle.dimacs_lines.proofs.numbers.long_natural.Goals as goal

pub returns-clause-value : goal.returns-clause-value
returns-clause-value c = rw (c.from-2.ensures, c.from-3.ensures) (joined_value c.args.word.now c.split_at.result.0.now c.split_at.result.1.now c.in_ok-high.high c.in_ok-low.low
    (rw (c.split_at.ensures.front, c.split_at.ensures.back) (sym (take-append-drop _ _))) (omega (arith, c.split_at.ensures.back_len)) (omega arith) c.in_ok-high.ensures.value c.in_ok-low.ensures.value)

pub returns-clause-below : goal.returns-clause-below
returns-clause-below c = search rules
