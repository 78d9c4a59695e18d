use Rattle.std.proofs.Common.{ℕ, ◌<◌}
use Rattle.cuts.specs.Cut.{IsClosedAlong}
use Rattle.cuts.proofs.side.way_out_along_all.Given as goal

abbrev pub invariant-loop-k : goal.invariant-loop-k
invariant-loop-k l = (j : ℕ) → j < l.k → IsClosedAlong l.on.side l.on.graph.now.rows l.on.flow.now l.marked j
