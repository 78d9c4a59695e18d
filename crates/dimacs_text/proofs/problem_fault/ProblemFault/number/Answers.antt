use Rattle.std.proofs.Common.{rules}
use Rattle.dimacs_text.proofs.problem_fault.ProblemFault.number.Goals as goal

pub returns-in-TooFewArcs : goal.returns-in-TooFewArcs
returns-in-TooFewArcs c = search rules
