use Rattle.std.proofs.Common.{◌≡◌, ◌≤◌, length}
use Rattle.cuts.specs.Cut.{IsGrown}
use Rattle.cuts.proofs.side.mark_again.Given as goal

abbrev pub invariant-loop-j : goal.invariant-loop-j
invariant-loop-j l = record {
  grown : IsGrown l.on.side l.on.graph.now.rows l.on.flow.now l.initial.marked l.marked;
  kept : l.kept ≤ l.j;
  same_length : length l.hops.items ≡ length l.initial.hops.items;
}
