use Rattle.std.proofs.Common.{◌≡◌, ℤ, List, length}
use Rattle.tracked.specs.Journal.{IsSince}
use Rattle.tracked.proofs.TrackedLemmas.{AreLeft}
use Rattle.tracked.proofs.journal.Journal.bring_back.Given as goal

abbrev pub invariant-loop-place : goal.invariant-loop-place
invariant-loop-place l = record {
  sized : length l.table ≡ length l.initial.table;
  left : (xs : List ℤ) → IsSince l.self xs l.initial.table → AreLeft l.place-items l.place-index l.table xs;
}
