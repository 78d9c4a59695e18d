use Rattle.flow_solver.proofs.GroupLemmas.{IsMaking}
use Rattle.flow_solver.proofs.tables.changes.make_all.Given as goal

abbrev pub invariant-loop-edit : goal.invariant-loop-edit
invariant-loop-edit l = IsMaking l.edit-index l.edits l.fn.tables l.tables
