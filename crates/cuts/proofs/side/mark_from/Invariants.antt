use Rattle.cuts.specs.Cut.{IsGrown}
use Rattle.cuts.proofs.side.mark_from.Given as goal

abbrev pub invariant-loop-i : goal.invariant-loop-i
invariant-loop-i l = IsGrown l.on.side l.on.graph.now.rows l.on.flow.now l.initial.marked l.marked
