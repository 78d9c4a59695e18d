use Rattle.std.proofs.Common.{rules}
use Rattle.dimacs_text.proofs.command.read_line.Goals as goal

pub returns : goal.returns
returns c = search rules
