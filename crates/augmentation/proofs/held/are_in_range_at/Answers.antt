use Rattle.std.proofs.Common.{ℕ, ◌<◌, arith, length}
use Rattle.residual_graph.specs.Residual.{number_at}
use Rattle.augmentation.specs.Held.{IsInLabelRange}
use Rattle.augmentation.proofs.HeldLemmas.{at_named}
use Rattle.augmentation.proofs.held.are_in_range_at.Goals as goal

pub returns : goal.returns
returns c = λ yes k lt marked.
    at_named c.places-node-items.result.now (λ (k : ℕ). k < length c.args.labels.now → IsInLabelRange (number_at c.args.labels.now k)) (λ j in_list. c.loop-node.invariant j (omega (arith, in_list, c.loop-node-test.false))) k (c.places-node-items.ensures.listed k marked) lt
