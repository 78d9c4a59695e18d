use Rattle.std.proofs.Common.{◌≡◌, length}
use Rattle.proposals.proofs.search.set_reaches.Given as goal

abbrev pub invariant-loop-v : goal.invariant-loop-v
invariant-loop-v g l = length l.reaches ≡ length l.initial.reaches
