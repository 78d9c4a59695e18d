use Rattle.std.proofs.Common.{rules}
use Rattle.dimacs_text.proofs.problem.Problem.arcs.Goals as goal

pub returns : goal.returns
returns c = search rules
