use Rattle.flow_solver.proofs.EditRows.{row_edit}
use Rattle.flow_solver.proofs.edit.edited_row.Goals as goal

pub returns : goal.returns
returns c =
    rw (c.row_after_edit.ensures, c.arc_number-k.ensures)
    (row_edit c.args.net.now c.args.edit.now c.arc_of.result (c.edits_keep_lawful.ensures c.args.net.now c.args.edit.now) c.requires.lawful c.requires.accepted c.requires.of_arc (rw c.arc_number-k.ensures at c.arc_of.ensures))
