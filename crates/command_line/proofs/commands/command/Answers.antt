use Rattle.std.proofs.Common.{ap, ap₂, ◌∙◌, ◌≡◌, ◌||◌, false}
use Rattle.std.proofs.lemmas.Result.{IfOk-weaker}
use Rattle.clap.specs.Words.{app_of, with_rule, new_app, rule_of}
use Rattle.clap.specs.declared.builder.command.Command.TheViews.{out-Command}
use Rattle.command_line.proofs.commands.command.Goals as goal

pub returns-clause-app : goal.returns-clause-app
returns-clause-app c =
    let base : app_of c.after_help.result ≡ new_app c.args.name.now = rw (c.after_help.ensures, c.about.ensures) c.new.ensures.app in
    let one = c.in_ok-arg.ensures.shape c.requires.first ∙ ap (λ a. with_rule a (rule_of c.args.first)) base in
    IfOk-weaker c.arg-2.result _ _ (λ r h. h.shape c.requires.second ∙ ap (λ a. with_rule a (rule_of c.args.second)) one) c.arg-2.ensures

pub returns-clause-local : goal.returns-clause-local
returns-clause-local c =
    let base : (out-Command c.after_help.result).has_globals ≡ false = rw (c.after_help.ensures, c.about.ensures) c.new.ensures.local in
    IfOk-weaker c.arg-2.result _ _ (λ r h. h.globals ∙ ap₂ (λ x y. x || y) (c.in_ok-arg.ensures.globals ∙ ap₂ (λ x y. x || y) base c.requires.first) c.requires.second) c.arg-2.ensures
