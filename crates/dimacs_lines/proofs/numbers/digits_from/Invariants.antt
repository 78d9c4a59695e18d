use Rattle.std.proofs.Common.{◌≡◌, ◌≤◌, ◌-◌, true, take, drop}
use Rattle.std.specs.List.{list_all}
use Rattle.dimacs_lines.specs.declared.numbers.TheConstants.{DIGIT_LIMIT}
use Rattle.dimacs_lines.specs.Fields.{is_digit, digits_value}
use Rattle.dimacs_lines.proofs.numbers.digits_from.Given as goal

abbrev pub invariant-loop-at : goal.invariant-loop-at
invariant-loop-at l = record {
  value : l.at - l.from ≤ DIGIT_LIMIT → l.value ≡ digits_value (take (l.at - l.from) (drop l.from l.line));
  are_digits : list_all is_digit (take (l.at - l.from) (drop l.from l.line)) ≡ true;
}
