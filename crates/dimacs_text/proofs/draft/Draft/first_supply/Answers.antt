use Rattle.std.proofs.Common.{w64, sym, ◌∙◌, rules}
use Rattle.std.proofs.lemmas.Int.{to_z-of_z}
use Rattle.dimacs_lines.specs.Fields.{IsNode}
use Rattle.dimacs_text.specs.Lawful.{IsWithin}
use Rattle.dimacs_text.specs.declared.problem.TheConstants.{SUPPLY_LIMIT}
use Rattle.dimacs_text.proofs.PlainLemmas.{supply_said}
use Rattle.dimacs_text.proofs.draft.Draft.first_supply.Goals as goal

pub returns : goal.returns
returns c =
    let id = c.in_ok-id in let value = c.in_ok-value in
    let id_in : IsNode c.args.size.nodes id.id = search rules in
    let within : IsWithin SUPPLY_LIMIT value.value = search rules in
    rw (to_z-of_z w64 value.value (search rules))
    (supply_said c.args.size.nodes c.args.self.now.marks c.args.text.now id.id c.in_ok-used.used value.value id.end value.end id.ensures.word value.ensures.word c.in_ok-used.ensures id_in within (sym c.is_named.ensures ∙ c.if-is_named.false))
