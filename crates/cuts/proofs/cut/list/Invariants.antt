use Rattle.std.proofs.Common.{◌≡◌, ℕ, ◌<◌, length, true}
use Rattle.tracked.specs.Marks.{in_set}
use Rattle.tracked.specs.NodeLists.{node_at}
use Rattle.cuts.proofs.cut.list.Given as goal

abbrev pub invariant-loop-node : goal.invariant-loop-node
invariant-loop-node l = record {
  same_size : length l.listed ≡ length l.initial.listed;
  still : (v : ℕ) → in_set l.initial.listed v ≡ true → in_set l.listed v ≡ true;
  noted : (i : ℕ) → i < l.node-index → node_at l.nodes i < length l.listed → in_set l.listed (node_at l.nodes i) ≡ true;
}
