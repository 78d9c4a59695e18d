use Rattle.std.proofs.Common.{◌≡◌, ℕ, ℤ, List, length}
use Rattle.flow_solver.specs.Balance.{IsWrappedExcess}
use Rattle.flow_solver.proofs.BalanceLemmas.{IsPartWay}
use Rattle.flow_solver.proofs.balance.carry_back.Given as goal

abbrev pub invariant-loop-j : goal.invariant-loop-j
invariant-loop-j l = (length l.excess ≡ length l.initial.excess) × (z : List ℤ) × IsPartWay l.places l.flow.entries l.kept l.j z × ((supply : ℕ → ℤ) → IsWrappedExcess l.rows supply l.flow.entries l.initial.excess → IsWrappedExcess l.rows supply z l.excess)
