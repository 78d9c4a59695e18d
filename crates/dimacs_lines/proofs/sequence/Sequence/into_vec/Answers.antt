use Rattle.std.proofs.Common.{rules}
use Rattle.dimacs_lines.proofs.sequence.Sequence.into_vec.Goals as goal

pub returns : goal.returns
returns g c = search rules
