use Rattle.std.proofs.Common.{◌≡◌}
use Rattle.proposals.proofs.search.Search.put_in_order.Given as goal

abbrev pub invariant-loop-v : goal.invariant-loop-v
invariant-loop-v l = l.self ≡ l.initial.self

abbrev pub invariant-loop : goal.invariant-loop
invariant-loop l = l.self ≡ l.initial.self

abbrev pub invariant-loop-v-2 : goal.invariant-loop-v-2
invariant-loop-v-2 l = l.self ≡ l.initial.self
