use Rattle.std.proofs.Common.{◌≡◌}
use Rattle.shortest_paths.proofs.tree.Tree.rejoin_touched.Given as goal

abbrev pub invariant-loop-i : goal.invariant-loop-i
invariant-loop-i l = l.self ≡ l.initial.self
