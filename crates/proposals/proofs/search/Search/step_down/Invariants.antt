use Rattle.std.proofs.Common.{◌≡◌}
use Rattle.proposals.proofs.search.Search.step_down.Given as goal

abbrev pub invariant-loop-k : goal.invariant-loop-k
invariant-loop-k g l = l.self-inside ≡ l.initial.self-inside
