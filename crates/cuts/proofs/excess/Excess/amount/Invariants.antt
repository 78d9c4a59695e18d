use Rattle.cuts.proofs.ExcessLemmas.{IsCounted}
use Rattle.cuts.proofs.excess.Excess.amount.Given as goal

abbrev pub invariant-loop-place : goal.invariant-loop-place
invariant-loop-place l = IsCounted l.side l.place-items l.place-index l.self-inside.entries.items l.sum
