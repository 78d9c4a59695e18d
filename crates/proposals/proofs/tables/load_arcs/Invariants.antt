use Rattle.std.proofs.Common.{◌≡◌}
use Rattle.proposals.proofs.tables.load_arcs.Given as goal

abbrev pub invariant-loop-row : goal.invariant-loop-row
invariant-loop-row g l = l.ends ≡ l.initial.ends

abbrev pub invariant-loop-j : goal.invariant-loop-j
invariant-loop-j g l = l.ends ≡ l.initial.ends
