use Rattle.std.proofs.Common.{[], length}
use Rattle.flow_solver.proofs.GroupLemmas.{IsTakingBack}
use Rattle.flow_solver.proofs.tables.changes.take_back_all.Given as goal

abbrev pub invariant-loop-part : goal.invariant-loop-part
invariant-loop-part l = IsTakingBack l.fn.tables l.tables.kept.log l.tables.moment.instance (record l.tables.kept { log = [] })

abbrev pub decreases-loop-part : goal.decreases-loop-part
decreases-loop-part l = length l.tables.kept.log
