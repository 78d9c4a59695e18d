use Rattle.std.proofs.Common.{ℕ, ◌<◌}
use Rattle.predecessors.specs.Predecessor.{IsTracedAt}
use Rattle.predecessors.proofs.predecessor.are_traced.Given as goal

abbrev pub invariant-loop-v : goal.invariant-loop-v
invariant-loop-v l = record {
  traced : (w : ℕ) → w < l.v → IsTracedAt l.graph.rows l.flow l.labels l.predecessors w;
}
