use Rattle.std.proofs.Common.{◌≡◌}
use Rattle.residual_ends.proofs.table.ResidualEnds.free_place.Given as goal

abbrev pub invariant-loop-moved : goal.invariant-loop-moved
invariant-loop-moved l = l.self ≡ l.initial.self

abbrev pub invariant-loop-node : goal.invariant-loop-node
invariant-loop-node l = l.self ≡ l.initial.self
