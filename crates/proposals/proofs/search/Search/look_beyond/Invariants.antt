use Rattle.std.proofs.Common.{◌≡◌, ◌-◌, length}
use Rattle.proposals.proofs.search.Search.look_beyond.Given as goal

abbrev pub invariant-loop-k : goal.invariant-loop-k
invariant-loop-k g l = l.self ≡ l.initial.self

abbrev pub decreases-loop-k : goal.decreases-loop-k
decreases-loop-k g l = length l.links - l.next
