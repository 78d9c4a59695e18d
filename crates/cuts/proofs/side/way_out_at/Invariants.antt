use Rattle.residual_graph.specs.Walk.{HasCome, ends_left}
use Rattle.cuts.specs.Cut.{IsClosedAlong}
use Rattle.cuts.proofs.side.way_out_at.Given as goal

abbrev pub invariant-loop-current : goal.invariant-loop-current
invariant-loop-current l = HasCome l.on.graph.now l.node l.current (IsClosedAlong l.on.side l.on.graph.now.rows l.on.flow.now l.marked)

abbrev pub decreases-loop-current : goal.decreases-loop-current
decreases-loop-current l = ends_left l.current
