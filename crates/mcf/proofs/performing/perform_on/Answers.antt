use Rattle.std.proofs.Common.{rules}
use Rattle.runs.proofs.SourceLemmas.{UsesSource-none}
use Rattle.mcf.specs.Performing.{answer_ended, answer_failed, commands_ended, commands_failed}
use Rattle.mcf.proofs.performing.perform_on.Goals as goal

pub returns-in-Solve-clause-engine : goal.returns-in-Solve-clause-engine
returns-in-Solve-clause-engine g c = search rules

-- ---- what the task does not ask for is not read

pub returns-in-Solve-clause-answer : goal.returns-in-Solve-clause-answer
returns-in-Solve-clause-answer g c =
    UsesSource-none g.A.Source (answer_ended c.args.task c.solve.result) (answer_failed c.args.task c.solve.result) c.args.answer.now (search rules) (search rules)

pub returns-in-Solve-clause-commands : goal.returns-in-Solve-clause-commands
returns-in-Solve-clause-commands g c =
    UsesSource-none g.C.Source (commands_ended c.args.task c.solve.result) (commands_failed c.args.task c.solve.result) c.args.commands.now (search rules) (search rules)

pub returns-in-Session-clause-answer : goal.returns-in-Session-clause-answer
returns-in-Session-clause-answer g c =
    UsesSource-none g.A.Source (answer_ended c.args.task c.run_session.result) (answer_failed c.args.task c.run_session.result) c.args.answer.now (search rules) (search rules)

pub returns-in-Check-clause-commands : goal.returns-in-Check-clause-commands
returns-in-Check-clause-commands g c =
    UsesSource-none g.C.Source (commands_ended c.args.task c.check.result) (commands_failed c.args.task c.check.result) c.args.commands.now (search rules) (search rules)
