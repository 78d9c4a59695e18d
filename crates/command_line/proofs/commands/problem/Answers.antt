use Rattle.command_line.proofs.commands.problem.Goals as goal

pub returns-clause-rule : goal.returns-clause-rule
returns-clause-rule c = c.needed.ensures.rule
