use Rattle.std.proofs.Common.{ℕ, ◌<◌}
use Rattle.residual_graph.specs.Residual.{number_at}
use Rattle.residual_graph.specs.Side.{IsRoot}
use Rattle.tracked.specs.NodeLists.{node_at}
use Rattle.cuts.proofs.excess.Excess.has_root.Given as goal

abbrev pub invariant-loop-j : goal.invariant-loop-j
invariant-loop-j l = (i : ℕ) → i < l.j → IsRoot l.side (number_at l.self-inside.entries.items (node_at l.places i)) → ⊥
