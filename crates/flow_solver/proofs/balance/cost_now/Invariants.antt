use Rattle.std.proofs.Common.{ℤ, List}
use Rattle.flow_solver.specs.Balance.{IsWrappedCost}
use Rattle.flow_solver.proofs.BalanceLemmas.{IsPartWay}
use Rattle.flow_solver.proofs.balance.cost_now.Given as goal

abbrev pub invariant-loop-j : goal.invariant-loop-j
invariant-loop-j l = (z : List ℤ) × IsPartWay l.places l.kept l.flow.entries l.j z × IsWrappedCost l.rows z l.now
