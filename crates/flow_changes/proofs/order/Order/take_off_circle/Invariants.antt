use Rattle.std.proofs.Common.{◌≡◌}
use Rattle.flow_changes.proofs.order.Order.take_off_circle.Given as goal

abbrev pub invariant-loop-j : goal.invariant-loop-j
invariant-loop-j l = l.self ≡ l.initial.self
