use Rattle.std.proofs.Common.{rules}
use Rattle.dimacs_lines.proofs.reader.take_cut.Goals as goal

pub returns-in-None : goal.returns-in-None
returns-in-None g c = search rules
