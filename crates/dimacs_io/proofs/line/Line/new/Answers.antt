use Rattle.std.proofs.Common.{rules}
use Rattle.dimacs_io.proofs.line.Line.new.Goals as goal

pub returns : goal.returns
returns c = search rules
