use Rattle.std.proofs.Common.{◌≡◌}
use Rattle.proposals.proofs.tables.renew_all.Given as goal

abbrev pub invariant-loop-k : goal.invariant-loop-k
invariant-loop-k l = l.ends ≡ l.initial.ends

abbrev pub invariant-loop-k-2 : goal.invariant-loop-k-2
invariant-loop-k-2 l = l.ends ≡ l.initial.ends

abbrev pub invariant-loop-k-3 : goal.invariant-loop-k-3
invariant-loop-k-3 l = l.ends ≡ l.initial.ends
