use Rattle.std.proofs.Common.{◌≡◌, ℕ, List, Bool, true, not, length}
use Rattle.std.specs.List.{count_by}
use Rattle.cuts.specs.Cut.{HoldsRoots, IsClosed}
use Rattle.tracked.specs.Marks.{in_set}
use Rattle.cuts.proofs.side.mark_side.Given as goal

abbrev pub invariant-loop-node : goal.invariant-loop-node
invariant-loop-node l = record {
  same_size : length l.marked ≡ length l.fn.marked;
  holds : HoldsRoots l.on.side l.excess l.marked;
  least : (other : List Bool) → IsClosed l.on.side l.on.graph.now.rows l.on.flow.now other → HoldsRoots l.on.side l.excess other → (v : ℕ) → in_set l.marked v ≡ true → in_set other v ≡ true;
}

abbrev pub decreases-loop-node : goal.decreases-loop-node
decreases-loop-node l = count_by not l.marked
