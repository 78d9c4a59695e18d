use Rattle.flow_solver.proofs.LogLemmas.{IsSupplyAt}
use Rattle.flow_solver.proofs.part.supply_before.Given as goal

abbrev pub invariant-loop-i : goal.invariant-loop-i
invariant-loop-i l = IsSupplyAt l.id l.net l.log l.i l.supply

abbrev pub decreases-loop-i : goal.decreases-loop-i
decreases-loop-i l = l.i
