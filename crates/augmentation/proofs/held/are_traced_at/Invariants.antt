use Rattle.std.proofs.Common.{ℕ, ◌<◌, length}
use Rattle.tracked.specs.NodeLists.{node_at}
use Rattle.predecessors.specs.Predecessor.{IsTracedAt}
use Rattle.augmentation.proofs.held.are_traced_at.Given as goal

abbrev pub invariant-loop-node : goal.invariant-loop-node
invariant-loop-node l = (j : ℕ) → j < l.node-index → node_at l.node-items j < length l.on.labels.now → IsTracedAt l.on.graph.now.rows l.on.flow.now l.on.labels.now l.on.predecessors.now (node_at l.node-items j)
