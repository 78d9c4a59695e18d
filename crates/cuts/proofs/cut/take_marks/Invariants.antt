use Rattle.std.proofs.Common.{◌≡◌, ℕ, ◌<◌}
use Rattle.tracked.specs.Marks.{in_set}
use Rattle.tracked.specs.NodeLists.{node_at}
use Rattle.tracked.specs.Tracked.{IsWritten}
use Rattle.cuts.proofs.cut.take_marks.Given as goal

abbrev pub invariant-loop-node : goal.invariant-loop-node
invariant-loop-node l = record {
  written : IsWritten l.initial.table l.table;
  taken : (i : ℕ) → i < l.node-index → in_set l.table.entries (node_at l.nodes i) ≡ in_set l.marked (node_at l.nodes i);
  kept : (v : ℕ) → in_set l.initial.table.entries v ≡ in_set l.marked v → in_set l.table.entries v ≡ in_set l.marked v;
}
