use Rattle.std.proofs.Common.{w64, sym, ◌∙◌, rules}
use Rattle.std.proofs.lemmas.Int.{to_z-of_z}
use Rattle.dimacs_lines.specs.Fields.{IsNode}
use Rattle.dimacs_text.specs.Lawful.{IsWithin}
use Rattle.dimacs_text.specs.declared.problem.TheConstants.{COST_LIMIT}
use Rattle.dimacs_text.proofs.PlainLemmas.{asn_said}
use Rattle.dimacs_text.proofs.draft.Draft.first_asn_row.Goals as goal

pub returns : goal.returns
returns c =
    let tail = c.in_ok-tail in let head = c.in_ok-head in let cost = c.in_ok-cost in
    let tail_in : IsNode c.args.size.nodes tail.tail = search rules in
    let head_in : IsNode c.args.size.nodes head.head = search rules in
    let within : IsWithin COST_LIMIT cost.cost = search rules in
    rw (to_z-of_z w64 cost.cost (search rules))
    (asn_said c.args.size.nodes c.args.self.now.marks c.args.text.now tail.tail head.head c.in_ok-used.used cost.cost tail.end head.end cost.end tail.ensures.word head.ensures.word cost.ensures.word c.in_ok-used.ensures tail_in head_in within
    (sym c.is_named-else-is_named.ensures ∙ c.if-not-is_named.false) (sym c.is_named.ensures ∙ c.if-is_named.false))
