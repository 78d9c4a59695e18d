use Rattle.std.proofs.Common.{ℕ, ◌<◌, length}
use Rattle.tracked.specs.NodeLists.{node_at}
use Rattle.augmentation.specs.Held.{HoldsAlong}
use Rattle.augmentation.proofs.held.hold_along_all.Given as goal

abbrev pub invariant-loop-place : goal.invariant-loop-place
invariant-loop-place l = (j : ℕ) → j < l.place-index → node_at l.place-items j < length l.on.graph.now.rows → HoldsAlong l.on.graph.now.rows l.on.flow.now l.on.labels.now l.on.predecessors.now (node_at l.place-items j)
