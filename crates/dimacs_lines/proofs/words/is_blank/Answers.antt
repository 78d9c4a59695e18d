use Rattle.std.proofs.Common.{rules}
use Rattle.dimacs_lines.proofs.words.is_blank.Goals as goal

pub returns : goal.returns
returns c = search rules
