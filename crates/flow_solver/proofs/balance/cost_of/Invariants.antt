use Rattle.std.proofs.Common.{take}
use Rattle.flow_solver.specs.Balance.{IsWrappedCost}
use Rattle.flow_solver.proofs.balance.cost_of.Given as goal

abbrev pub invariant-loop-k : goal.invariant-loop-k
invariant-loop-k l = IsWrappedCost (take l.k l.rows) (take l.k l.flow) l.cost
