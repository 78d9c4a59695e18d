use Rattle.std.proofs.Common.{◌≡◌}
use Rattle.flow_changes.proofs.order.Order.begin.Given as goal

abbrev pub invariant-loop-change : goal.invariant-loop-change
invariant-loop-change l = l.self ≡ l.initial.self
