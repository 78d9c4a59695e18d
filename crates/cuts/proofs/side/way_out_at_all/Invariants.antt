use Rattle.std.proofs.Common.{ℕ, ◌<◌}
use Rattle.tracked.specs.NodeLists.{node_at}
use Rattle.cuts.specs.Cut.{AreFarIn}
use Rattle.cuts.proofs.side.way_out_at_all.Given as goal

abbrev pub invariant-loop-node : goal.invariant-loop-node
invariant-loop-node l = (j : ℕ) → j < l.node-index → AreFarIn l.on.side l.on.graph.now.rows l.on.flow.now l.marked (node_at l.node-items j)
