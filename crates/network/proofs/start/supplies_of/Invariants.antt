use Rattle.std.proofs.Common.{◌≡◌, ℕ, ◌≤◌, drop, length}
use Rattle.network.specs.Instance.{at_node}
use Rattle.network.specs.Start.{supply_or}
use Rattle.network.proofs.start.supplies_of.Given as goal

-- what is still to come, over the supplies so far, tells each node's supply
abbrev pub invariant-loop-mark : goal.invariant-loop-mark
invariant-loop-mark l = record {
  len : length l.supplies.items ≡ l.nodes;
  told : (v : ℕ) → 1 ≤ v → v ≤ l.nodes → supply_or (drop l.mark-index l.marks) v (at_node l.supplies.items v) ≡ supply_or l.marks v l.unmarked;
}
