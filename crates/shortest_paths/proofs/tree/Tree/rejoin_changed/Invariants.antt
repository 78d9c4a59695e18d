use Rattle.std.proofs.Common.{◌≡◌}
use Rattle.shortest_paths.proofs.tree.Tree.rejoin_changed.Given as goal

abbrev pub invariant-loop-v : goal.invariant-loop-v
invariant-loop-v l = l.self ≡ l.initial.self
