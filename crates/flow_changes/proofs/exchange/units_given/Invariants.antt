use Rattle.std.proofs.Common.{ℤ, List}
use Rattle.flow_changes.proofs.ExchangeLemmas.{AreGiven}
use Rattle.tracked.specs.Journal.{IsSince}
use Rattle.flow_changes.proofs.exchange.units_given.Given as goal

abbrev pub invariant-loop-place : goal.invariant-loop-place
invariant-loop-place l = (before : List ℤ) → IsSince l.journal before l.excess → AreGiven l.place-items l.place-index before l.excess l.units
