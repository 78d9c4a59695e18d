use Rattle.std.proofs.Common.{◌≡◌}
use Rattle.shortest_paths.proofs.tree.Tree.rejoin_along.Given as goal

abbrev pub invariant-loop-arc : goal.invariant-loop-arc
invariant-loop-arc l = l.self ≡ l.initial.self
