use Rattle.std.proofs.Common.{◌≡◌, length}
use Rattle.cuts.proofs.ExcessLemmas.{AreRootsMarked}
use Rattle.cuts.proofs.side.mark_roots.Given as goal

abbrev pub invariant-loop-j : goal.invariant-loop-j
invariant-loop-j l = record {
  same_size : length l.marked ≡ length l.initial.marked;
  are : AreRootsMarked l.side l.excess l.places l.j l.marked;
}
