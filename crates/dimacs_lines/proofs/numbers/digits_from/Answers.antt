use Rattle.std.proofs.Common.{refl, ◌≡◌, true, ◌+◌, ◌-◌, ◌*◌, ◌%◌, ◌∙◌, ◌<◌, ◌≤◌, ◌^◌, length, take, drop, get_or, arith}
use Rattle.std.proofs.lemmas.List.{length-drop, length-take, get_or-drop, take_more}
use Rattle.std.proofs.lemmas.Bool.Decides.{nat_tests}
use Rattle.dimacs_lines.specs.Fields.{is_digit, digits_value}
use Rattle.dimacs_lines.proofs.NumberLemmas.{pow_within}
use Rattle.dimacs_lines.proofs.DigitLemmas.{wrapped_digit, digit_more, digits_more, digits_below}
use Rattle.dimacs_lines.proofs.numbers.digits_from.Goals as goal

pub loop-at-preserved : goal.loop-at-preserved
loop-at-preserved c =
    let front = drop c.args.from c.args.line.now in let digits = c.loop-at.at - c.args.from in let byte = get_or c.args.line.now c.loop-at.at 0 in
    let more : c.loop-at.at + 1 - c.args.from ≡ digits + 1 = omega arith in
    let back : c.args.from + digits ≡ c.loop-at.at = omega arith in
    let within : digits < length front = omega (arith, length-drop c.args.from c.args.line.now) in
    let digit = (c.from.result + (2 ^ 64 - c.from-in-loop-at.result)) % 2 ^ 64 in
    let bounds = wrapped_digit byte digit (omega (arith, c.type_inv.line c.loop-at.at)) (rw (c.from.ensures, c.from-in-loop-at.ensures) refl) c.if-digit-gt9.false in
    let is : is_digit byte ≡ true = grind (arith, nat_tests) in
    let taken = take_more front digits 0 within in
    rw (more, taken, get_or-drop, back) (record {
      value = λ few.
          let old : c.loop-at.value ≡ digits_value (take digits front) = c.loop-at.invariant.value (omega arith) in
          let low : digits_value (take digits front) < 10 ^ length (take digits front) = digits_below (take digits front) c.loop-at.invariant.are_digits in
          let high : 10 ^ length (take digits front) ≤ 10 ^ 17 = pow_within (length (take digits front)) 17 (omega (arith, length-take digits front)) in
          let small : (c.loop-at.value * 10 % 2 ^ 64 + digit) % 2 ^ 64 ≡ c.loop-at.value * 10 + (byte - 48) = omega arith in
          small ∙ digit_more (take digits front) c.loop-at.value byte old;
      are_digits = digits_more (take digits front) byte c.loop-at.invariant.are_digits is;
    })
