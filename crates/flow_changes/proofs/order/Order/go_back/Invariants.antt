use Rattle.std.proofs.Common.{◌≡◌}
use Rattle.flow_changes.proofs.order.Order.go_back.Given as goal

abbrev pub invariant-loop : goal.invariant-loop
invariant-loop l = l.self ≡ l.initial.self
