use Rattle.tracked.specs.Tracked.{IsWritten}
use Rattle.augmentation.proofs.NearLemmas.{IsMade}
use Rattle.augmentation.proofs.near.write_at.Given as goal

abbrev pub invariant-loop-place : goal.invariant-loop-place
invariant-loop-place l = record {
  written : IsWritten l.initial.table l.table;
  made : IsMade l.places l.place-index l.initial.table.entries l.table.entries l.numbers;
}
