use Rattle.residual_graph.specs.Walk.{HasCome, ends_left}
use Rattle.augmentation.specs.Held.{HoldsAlong}
use Rattle.augmentation.proofs.held.holds_at.Given as goal

abbrev pub invariant-loop-guess : goal.invariant-loop-guess
invariant-loop-guess l = HasCome l.on.graph.now l.node l.current (HoldsAlong l.on.graph.now.rows l.on.flow.now l.on.labels.now l.on.predecessors.now)

abbrev pub invariant-loop-current : goal.invariant-loop-current
invariant-loop-current l = HasCome l.on.graph.now l.node l.current (HoldsAlong l.on.graph.now.rows l.on.flow.now l.on.labels.now l.on.predecessors.now)

abbrev pub decreases-loop-current : goal.decreases-loop-current
decreases-loop-current l = ends_left l.current
