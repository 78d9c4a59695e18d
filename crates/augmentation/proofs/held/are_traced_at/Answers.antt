use Rattle.std.proofs.Common.{ℕ, ◌<◌, arith, length, refl}
use Rattle.predecessors.specs.Predecessor.{IsTracedAt}
use Rattle.augmentation.proofs.HeldLemmas.{at_named, at_one_more}
use Rattle.augmentation.proofs.held.are_traced_at.Goals as goal

pub returns : goal.returns
returns c = λ yes k lt marked.
    at_named c.places-node-items.result.now (λ (k : ℕ). k < length c.args.on.labels.now → IsTracedAt c.args.on.graph.now.rows c.args.on.flow.now c.args.on.labels.now c.args.on.predecessors.now k) (λ j in_list. c.loop-node.invariant j (omega (arith, in_list, c.loop-node-test.false))) k (c.places-node-items.ensures.listed k marked) lt

pub loop-node-preserved : goal.loop-node-preserved
loop-node-preserved c = at_one_more c.places-node-items.result.now (λ (k : ℕ). k < length c.args.on.labels.now → IsTracedAt c.args.on.graph.now.rows c.args.on.flow.now c.args.on.labels.now c.args.on.predecessors.now k) c.loop-node.node-index c.loop-node.invariant (λ lt. c.if-not-is_traced.ensures refl)
