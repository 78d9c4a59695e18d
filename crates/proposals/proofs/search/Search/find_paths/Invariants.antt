use Rattle.std.proofs.Common.{◌≡◌}
use Rattle.proposals.proofs.search.Search.find_paths.Given as goal

abbrev pub invariant-loop-k : goal.invariant-loop-k
invariant-loop-k g l = l.self ≡ l.initial.self
