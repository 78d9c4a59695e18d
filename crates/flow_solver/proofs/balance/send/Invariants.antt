use Rattle.std.proofs.Common.{◌≡◌, ℕ, ℤ, length, take}
use Rattle.flow_solver.specs.Balance.{AreWrapped, IsWrappedExcess}
use Rattle.flow_solver.proofs.balance.send.Given as goal

abbrev pub invariant-loop-k : goal.invariant-loop-k
invariant-loop-k l = record {
  same_length : length l.excess ≡ length l.initial.excess;
  sent : (supply : ℕ → ℤ) → AreWrapped supply l.initial.excess → IsWrappedExcess (take l.k l.rows) supply (take l.k l.flow) l.excess;
}
