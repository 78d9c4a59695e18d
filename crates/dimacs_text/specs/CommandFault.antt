-- The faults of command texts: their numbers, and the fault of a line as one of them.
use Rattle.std.specs.Prelude.{ℕ, Result}
use Rattle.dimacs_lines.specs.declared.fault.LineFault.{LineFault}
use Rattle.dimacs_lines.specs.Fault.{number_of as number_in_line}
use Rattle.dimacs_lines.specs.Checks.{held_as}
use Rattle.dimacs_text.specs.declared.command_fault.CommandFault.{CommandFault}
use Rattle.dimacs_text.specs.declared.command_fault.CommandFault.TheVariants as fault

abbrev pub number_of : CommandFault → ℕ
number_of (fault.Line e) = number_in_line e
number_of fault.NotForKind = 23
number_of fault.OutOfPlace = 29
number_of fault.GroupTooLong = 31
number_of fault.NotAName = 32

-- a check of a line by itself
abbrev pub in_line : {A : Type 0} → Result A LineFault → Result A CommandFault
in_line read = held_as (λ e. fault.Line e) read
