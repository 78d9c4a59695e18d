use Rattle.std.proofs.Common.{rules}
use Rattle.dimacs_lines.proofs.numbers.natural_in.Goals as goal

pub returns-else-low-value-clause-value : goal.returns-else-low-value-clause-value
returns-else-low-value-clause-value c = search rules
