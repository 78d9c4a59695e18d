use Rattle.std.proofs.Common.{◌-◌, drop, arith}
use Rattle.dimacs_lines.proofs.DigitLemmas.{front_below}
use Rattle.dimacs_lines.proofs.front.some_digits.Goals as goal

pub returns-clause-below : goal.returns-clause-below
returns-clause-below c =
    let digits = c.digits_from-value in
    front_below digits.result.0 (digits.result.1 - c.args.begin) (drop c.args.begin c.args.text.now) digits.ensures.digits (omega arith)
