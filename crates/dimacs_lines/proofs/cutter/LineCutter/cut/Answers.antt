use Rattle.std.proofs.Common.{rules}
use Rattle.dimacs_lines.proofs.cutter.LineCutter.cut.Goals as goal

pub returns-then-length-piece-clause-used : goal.returns-then-length-piece-clause-used
returns-then-length-piece-clause-used c = search rules

pub returns-then-length-piece-clause-cut : goal.returns-then-length-piece-clause-cut
returns-then-length-piece-clause-cut c = search rules

pub returns-else-length-piece-clause-cut : goal.returns-else-length-piece-clause-cut
returns-else-length-piece-clause-cut c = search rules
