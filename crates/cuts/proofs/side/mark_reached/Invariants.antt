use Rattle.cuts.specs.Cut.{IsGrown}
use Rattle.cuts.proofs.side.mark_reached.Given as goal

abbrev pub invariant-loop-next : goal.invariant-loop-next
invariant-loop-next l = IsGrown l.on.side l.on.graph.now.rows l.on.flow.now l.initial.marked l.marked
