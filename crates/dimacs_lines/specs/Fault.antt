-- The numbers of the faults of a line.
use Rattle.std.specs.Prelude.{ℕ}
use Rattle.dimacs_lines.specs.declared.fault.LineFault.{LineFault}
use Rattle.dimacs_lines.specs.declared.fault.LineFault.TheVariants as fault
use Rattle.dimacs_lines.specs.declared.fault.LineError.{LineError}
use Rattle.dimacs_lines.specs.declared.fault.LineError.TheVariants as line_error
use Rattle.dimacs_lines.specs.declared.fault.TextFault.{TextFault}
use Rattle.dimacs_lines.specs.declared.fault.TextFault.TheVariants as text_fault

abbrev pub number_of : LineFault → ℕ
number_of fault.TooLong = 1
number_of fault.UnknownDesignator = 2
number_of fault.WrongFieldCount = 3
number_of fault.NotANumber = 4
number_of fault.OutOfRange = 5

-- why a line was not taken, at its place in the text
abbrev pub located : LineError → ℕ → TextFault
located (line_error.Fault number) line = text_fault.Fault number line
located line_error.Memory line = text_fault.Memory
