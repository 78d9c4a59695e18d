use Rattle.std.proofs.Common.{ap₂, ◌∙◌, codes}
use Rattle.std.proofs.lemmas.Result.{IfOk-weaker}
use Rattle.clap.specs.Words.{new_app, with_rule}
use Rattle.command_line.proofs.commands.solve_command.Goals as goal

pub returns-clause-app : goal.returns-clause-app
returns-clause-app c =
    IfOk-weaker c.command.result _ _ (λ r h. h ∙ ap₂ (λ x y. with_rule (with_rule (new_app (codes "solve")) x) y) c.proof.ensures.rule c.file.ensures.rule) c.command.ensures.app
