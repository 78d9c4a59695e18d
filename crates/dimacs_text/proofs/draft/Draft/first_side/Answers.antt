use Rattle.std.proofs.Common.{sym, ◌∙◌, rules}
use Rattle.dimacs_lines.specs.Fields.{IsNode}
use Rattle.dimacs_text.proofs.PlainLemmas.{side_said}
use Rattle.dimacs_text.proofs.draft.Draft.first_side.Goals as goal

pub returns : goal.returns
returns c =
    let id = c.in_ok-id in
    let id_in : IsNode c.args.size.nodes id.id = search rules in
    side_said c.args.size.nodes c.args.self.now.marks c.args.text.now id.id c.in_ok-used.used id.end id.ensures.word c.in_ok-used.ensures id_in (sym c.is_named.ensures ∙ c.if-is_named.false)
