use Rattle.std.proofs.Common.{rules}
use Rattle.dimacs_lines.proofs.fault.LineFault.number.Goals as goal

pub returns-in-OutOfRange : goal.returns-in-OutOfRange
returns-in-OutOfRange c = search rules
