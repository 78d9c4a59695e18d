use Rattle.std.proofs.Common.{◌≡◌, ◌-◌}
use Rattle.two_sided.proofs.front.Front.read_free.Given as goal

abbrev pub invariant-loop-reads : goal.invariant-loop-reads
invariant-loop-reads l = l.self ≡ l.initial.self

abbrev pub decreases-loop-reads : goal.decreases-loop-reads
decreases-loop-reads l = 32 - l.reads
