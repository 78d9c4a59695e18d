use Rattle.std.proofs.Common.{rules}
use Rattle.dimacs_text.proofs.problem.Problem.nodes.Goals as goal

pub returns-clause-value : goal.returns-clause-value
returns-clause-value c = search rules
