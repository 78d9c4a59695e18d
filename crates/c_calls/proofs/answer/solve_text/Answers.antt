use Rattle.std.proofs.Common.{rules}
use Rattle.c_calls.proofs.answer.solve_text.Goals as goal

pub returns-in-Ok-clause-solved : goal.returns-in-Ok-clause-solved
returns-in-Ok-clause-solved c done = record { problem = c.in-Ok.problem; problem_read = c.in-Ok.ensures; solved = c.solve_problem.ensures.solved (search rules) }

pub returns-in-Ok-clause-too_short : goal.returns-in-Ok-clause-too_short
returns-in-Ok-clause-too_short c short = record { problem = c.in-Ok.problem; problem_read = c.in-Ok.ensures; too_long = c.solve_problem.ensures.too_short (search rules) }
