use Rattle.std.proofs.Common.{rules}
use Rattle.dimacs_text.proofs.problem.NodeMark.node.Goals as goal

pub returns-in-Side : goal.returns-in-Side
returns-in-Side c = search rules
