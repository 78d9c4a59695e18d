use Rattle.std.proofs.Common.{rules}
use Rattle.dimacs_lines.proofs.name.is_letter.Goals as goal

pub returns-in-97-to-122 : goal.returns-in-97-to-122
returns-in-97-to-122 c = search rules
