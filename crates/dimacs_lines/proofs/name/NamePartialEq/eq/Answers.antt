use Rattle.std.proofs.Common.{rules}
use Rattle.dimacs_lines.proofs.name.NamePartialEq.eq.Goals as goal

pub returns : goal.returns
returns c = search rules
