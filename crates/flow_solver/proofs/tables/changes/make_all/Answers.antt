use Rattle.std.proofs.Common.{arith}
use Rattle.flow_solver.proofs.GroupLemmas.{making_start, making_fits, making_more}
use Rattle.flow_solver.proofs.tables.changes.make_all.Goals as goal

pub loop-edit-init : goal.loop-edit-init
loop-edit-init c = making_start c.args.edits.now c.args.tables.now c.requires.fresh c.requires.certified c.requires.accepted

pub log_edit-requires-clause-room : goal.log_edit-requires-clause-room
log_edit-requires-clause-room c = omega (arith, c.requires.few, c.loop-edit.invariant.count)

pub log_edit-requires-clause-accepted : goal.log_edit-requires-clause-accepted
log_edit-requires-clause-accepted c = (making_fits c.loop-edit.edit-index c.args.edits.now c.args.tables.now c.loop-edit.tables _ (omega arith) c.loop-edit.invariant).accepted

pub loop-edit-preserved : goal.loop-edit-preserved
loop-edit-preserved c =
    making_more c.loop-edit.edit-index c.args.edits.now c.args.tables.now c.loop-edit.tables c.log_edit.new.self c.make.new.self _ (omega arith) c.loop-edit.invariant
    c.log_edit.ensures.moment c.log_edit.ensures.logged c.make.ensures

pub make-requires : goal.make-requires
make-requires c = rw c.log_edit.ensures.moment (making_fits c.loop-edit.edit-index c.args.edits.now c.args.tables.now c.loop-edit.tables _ (omega arith) c.loop-edit.invariant)
