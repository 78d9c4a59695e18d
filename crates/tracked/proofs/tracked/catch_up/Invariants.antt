use Rattle.tracked.proofs.TrackedLemmas.{AreLeft}
use Rattle.tracked.proofs.tracked.catch_up.Given as goal

abbrev pub invariant-loop-place : goal.invariant-loop-place
invariant-loop-place g l = AreLeft l.places l.place-index l.table l.other
