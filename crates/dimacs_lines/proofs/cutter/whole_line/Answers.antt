use Rattle.std.proofs.Common.{rules}
use Rattle.dimacs_lines.proofs.cutter.whole_line.Goals as goal

pub returns-then-length-le-LINE_LIMIT : goal.returns-then-length-le-LINE_LIMIT
returns-then-length-le-LINE_LIMIT c = search rules
