use Rattle.std.proofs.Common.{◌≡◌, ℕ, ◌<◌, length, true}
use Rattle.cuts.specs.Excess.{IsBalancedOrListed}
use Rattle.tracked.specs.Marks.{in_set}
use Rattle.tracked.specs.NodeLists.{node_at}
use Rattle.cuts.proofs.excess.note_unbalanced.Given as goal

abbrev pub invariant-loop-node : goal.invariant-loop-node
invariant-loop-node l = record {
  same_size : length l.unbalanced ≡ length l.initial.unbalanced;
  still : (v : ℕ) → in_set l.initial.unbalanced v ≡ true → in_set l.unbalanced v ≡ true;
  noted : (i : ℕ) → i < l.node-index → IsBalancedOrListed l.unbalanced l.entries (node_at l.nodes i);
}
