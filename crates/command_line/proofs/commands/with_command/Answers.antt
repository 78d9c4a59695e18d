use Rattle.std.proofs.Common.{ap, ap₂, ◌∙◌}
use Rattle.std.proofs.lemmas.Result.{IfOk-weaker}
use Rattle.clap.specs.Words.{App, with_subcommand}
use Rattle.command_line.proofs.commands.with_command.Goals as goal

pub returns-in-Ok : goal.returns-in-Ok
returns-in-Ok c = λ app sub is_app is_sub local.
    let sub_is = rw c.in-Ok.is at is_sub in
    let none = rw c.in-Ok.is at local in
    IfOk-weaker c.subcommand.result _ _ (λ r h. h.shape none ∙ ap₂ with_subcommand is_app (ap (λ (a : App). a.top) sub_is)) c.subcommand.ensures
