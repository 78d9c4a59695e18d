use Rattle.std.proofs.Common.{ap, codes}
use Rattle.std.specs.Prelude.{Some}
use Rattle.clap.specs.Words.{Rule}
use Rattle.clap.specs.declared.builder.ArgAction.TheVariants.{SetTrue}
use Rattle.command_line.proofs.commands.proof.Goals as goal

pub returns-clause-rule : goal.returns-clause-rule
returns-clause-rule c =
    rw (c.action.ensures, c.help.ensures, c.long.ensures) (ap (λ (r : Rule). record r { long = Some (codes "proof"); action = Some SetTrue }) c.new.ensures.rule)
