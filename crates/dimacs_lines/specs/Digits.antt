-- The digits that a line begins with.
use Rattle.std.specs.Prelude.{◌≡◌, ℕ, ◌<◌, ◌≤◌, true, false, length, take, slice_index}
use Rattle.std.specs.List.{list_all}
use Rattle.dimacs_lines.specs.declared.numbers.TheConstants.{DIGIT_LIMIT}
use Rattle.dimacs_lines.specs.Lines.{Line}
use Rattle.dimacs_lines.specs.Fields.{is_digit, digits_value}

-- so many digits, after which none stands, and the value that they spell where a number may have so many
pub record FrontDigits (value digits : ℕ) (line : Line) : Type 0 where
  pub value_is : digits ≤ DIGIT_LIMIT → value ≡ digits_value (take digits line)
  pub are_digits : list_all is_digit (take digits line) ≡ true
  pub within : digits ≤ length line
  pub ends : digits < length line → is_digit (slice_index line digits) ≡ false
