use Rattle.std.proofs.Common.{rules}
use Rattle.dimacs_lines.proofs.reader.take_part.Goals as goal

pub returns-in-Some-clause-used : goal.returns-in-Some-clause-used
returns-in-Some-clause-used g c = search rules
