use Rattle.std.proofs.Common.{rules}
use Rattle.dimacs_lines.proofs.cutter.LineCutter.new.Goals as goal

pub returns : goal.returns
returns c = search rules
