use Rattle.std.proofs.Common.{◌∙◌, ap, sym, w64, to_z, of_z, rules}
use Rattle.std.proofs.lemmas.Int.{to_z-of_z}
use Rattle.dimacs_text.specs.declared.command.Edit.TheVariants.{Add}
use Rattle.network.specs.Instance.{reduced}
use Rattle.augmentation.proofs.NodeLemmas.{held_node}
use Rattle.flow_solver.specs.Part.{place_of_edit}
use Rattle.flow_solver.proofs.EditRows.{add_edit}
use Rattle.flow_solver.proofs.PartLemmas.{row_back, supply_back, add_back}
use Rattle.flow_solver.proofs.part.part_of.Goals as goal

pub returns-in-Supply-clause-takes_back : goal.returns-in-Supply-clause-takes_back
returns-in-Supply-clause-takes_back c =
    let I = c.args.net.now in
    let old = to_z-of_z w64 c.supply_at.result (search rules) ∙ c.supply_at.ensures ∙ held_node I.nodes (reduced I).supply c.edited_supply-id.result.0 c.edited_supply-id.ensures.node in
    supply_back I c.args.edit.now c.edited_supply-id.result.0 c.edited_supply-id.result.1 (to_z w64 (of_z w64 c.supply_at.result)) c.requires.lawful old c.edited_supply-id.ensures

pub returns-in-Add-clause-takes_back : goal.returns-in-Add-clause-takes_back
returns-in-Add-clause-takes_back c =
    let I = c.args.net.now in
    let ok = rw c.in-Add.is at c.requires.accepted in
    rw c.in-Add.is (add_back I (Add c.in-Add.tail c.in-Add.head c.in-Add.low c.in-Add.cap c.in-Add.cost) _ (add_edit I c.in-Add.tail c.in-Add.head c.in-Add.low c.in-Add.cap c.in-Add.cost (c.edits_keep_lawful.ensures I (Add c.in-Add.tail c.in-Add.head c.in-Add.low c.in-Add.cap c.in-Add.cost)) c.requires.lawful ok))

pub returns-in_default-clause-takes_back : goal.returns-in_default-clause-takes_back
returns-in_default-clause-takes_back c =
    row_back c.args.net.now c.args.edit.now c.edited_row-k.result.0 c.arc_of.result c.edited_row-k.result.1 c.requires.lawful
    (rw c.from.ensures at c.arc_of.ensures) c.edited_row-k.ensures

pub returns-in-Supply-clause-place : goal.returns-in-Supply-clause-place
returns-in-Supply-clause-place c = ap place_of_edit (sym c.edited_supply-id.ensures.is)

pub returns-in_default-clause-place : goal.returns-in_default-clause-place
returns-in_default-clause-place c = sym c.edited_row-k.ensures.place
