use Rattle.std.proofs.Common.{rules}
use Rattle.dimacs_lines.proofs.sequence.Sequence.as_slice.Goals as goal

pub returns : goal.returns
returns g c = search rules
