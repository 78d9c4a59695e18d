use Rattle.std.proofs.Common.{ℕ, ◌<◌, length}
use Rattle.tracked.specs.NodeLists.{node_at}
use Rattle.residual_graph.specs.Residual.{number_at}
use Rattle.augmentation.specs.Held.{IsInLabelRange}
use Rattle.augmentation.proofs.held.are_in_range_at.Given as goal

abbrev pub invariant-loop-node : goal.invariant-loop-node
invariant-loop-node l = (j : ℕ) → j < l.node-index → node_at l.node-items j < length l.labels → IsInLabelRange (number_at l.labels (node_at l.node-items j))
