-- The numbers of refused edits.
use Rattle.std.specs.Prelude.{ℕ}
use Rattle.dimacs_lines.specs.declared.fault.LineFault.TheVariants as line
use Rattle.dimacs_lines.specs.Fault.{number_of as number_in_line}
use Rattle.dimacs_text.specs.declared.command_fault.CommandFault.TheVariants as command
use Rattle.dimacs_text.specs.CommandFault.{number_of as number_in_command}
use Rattle.network.specs.declared.refusal.EditRefusal.{EditRefusal}
use Rattle.network.specs.declared.refusal.EditRefusal.TheVariants as refusal

-- what a line is refused for too has its number
abbrev pub number_of : EditRefusal → ℕ
number_of refusal.NotForKind = number_in_command command.NotForKind
number_of refusal.OutOfRange = number_in_line line.OutOfRange
number_of refusal.NoSuchArc = 20
number_of refusal.NoSuchNode = 21
number_of refusal.LowAboveCap = 22
number_of refusal.NotAcrossSides = 27
number_of refusal.TableFull = 24
