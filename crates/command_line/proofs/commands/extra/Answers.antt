use Rattle.std.proofs.Common.{◌∙◌, ◌≡◌, ap, ap₂, codes, pos}
use Rattle.std.specs.Prelude.{Some}
use Rattle.clap.specs.Words.{Rule}
use Rattle.clap.specs.declared.builder.ArgAction.TheVariants.{Set}
use Rattle.clap.specs.declared.builder.value_parser.ValueParser.TheVariants as parser
use Rattle.command_line.proofs.commands.extra.Goals as goal

pub returns-clause-rule : goal.returns-clause-rule
returns-clause-rule c =
    let given = c.value_parser-2.ensures.given in
    let range_is : c.range.result ≡ parser.Signed (pos 0) (pos 100000) = rw (c.value_parser.ensures, c.new-2.ensures.start, c.new-2.ensures.end, c.from.ensures) at c.range.ensures in
    rw (c.value_parser-2.ensures.others, c.action.ensures, c.help.ensures, c.value_name.ensures, c.long.ensures)
    (ap₂ (λ (r : Rule) p. record r { long = Some (codes "extra"); value_names = 1; action = Some Set; parser = p }) c.new.ensures.rule (given.1 ∙ ap (λ p. Some p) (given.2 ∙ range_is)))
