use Rattle.std.proofs.Common.{rules}
use Rattle.dimacs_text.proofs.problem.Problem.kind.Goals as goal

pub returns : goal.returns
returns c = search rules
