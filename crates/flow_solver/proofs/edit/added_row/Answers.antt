use Rattle.std.proofs.Common.{◌≡◌, rules}
use Rattle.dimacs_text.specs.declared.command.Edit.TheVariants.{Add}
use Rattle.flow_solver.proofs.EditRows.{add_edit}
use Rattle.flow_solver.proofs.edit.added_row.Goals as goal

pub returns : goal.returns
returns c =
    let I = c.args.net.now in
    let ok = rw c.in-Add.is at c.requires.accepted in
    let made = add_edit I c.in-Add.tail c.in-Add.head c.in-Add.low c.in-Add.cap c.in-Add.cost (c.edits_keep_lawful.ensures I (Add c.in-Add.tail c.in-Add.head c.in-Add.low c.in-Add.cap c.in-Add.cost)) c.requires.lawful ok in
    let row_is : c.new_row.result ≡ record { tail = c.in-Add.tail; head = c.in-Add.head; low = c.in-Add.low; cap = c.in-Add.cap; cost = c.in-Add.cost } = search rules in
    rw (c.in-Add.is, row_is) made
