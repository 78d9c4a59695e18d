use Rattle.std.proofs.lemmas.Grind.{common_steps}
use Rattle.std.proofs.Common.{arith}
use Rattle.dimacs_io.proofs.line.Line.push_text.Goals as goal

pub returns : goal.returns
returns c = grind (arith, common_steps)
