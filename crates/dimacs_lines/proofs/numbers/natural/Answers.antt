use Rattle.std.proofs.lemmas.Grind.{common_steps}
use Rattle.std.proofs.Common.{◌-◌, arith}
use Rattle.dimacs_lines.proofs.DigitLemmas.{front_below}
use Rattle.dimacs_lines.proofs.numbers.natural.Goals as goal

pub returns-clause-below : goal.returns-clause-below
returns-clause-below c = front_below c.digits_from-value.result.0 (c.digits_from-value.result.1 - 0) c.args.word.now c.digits_from-value.ensures.digits (omega arith)

pub returns-then-is_empty-clause-value : goal.returns-then-is_empty-clause-value
returns-then-is_empty-clause-value c = grind (arith, common_steps)
