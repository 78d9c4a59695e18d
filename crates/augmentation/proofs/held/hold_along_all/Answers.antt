use Rattle.std.proofs.Common.{ℕ, ◌<◌, arith, length, refl}
use Rattle.augmentation.specs.Held.{HoldsAlong}
use Rattle.augmentation.proofs.HeldLemmas.{at_named, at_one_more}
use Rattle.augmentation.proofs.held.hold_along_all.Goals as goal

pub returns : goal.returns
returns c = λ yes k lt marked.
    at_named c.places-place-items.result.now (λ (k : ℕ). k < length c.args.on.graph.now.rows → HoldsAlong c.args.on.graph.now.rows c.args.on.flow.now c.args.on.labels.now c.args.on.predecessors.now k) (λ j in_list. c.loop-place.invariant j (omega (arith, in_list, c.loop-place-test.false))) k (c.places-place-items.ensures.listed k marked) lt

pub loop-place-preserved : goal.loop-place-preserved
loop-place-preserved c = at_one_more c.places-place-items.result.now (λ (k : ℕ). k < length c.args.on.graph.now.rows → HoldsAlong c.args.on.graph.now.rows c.args.on.flow.now c.args.on.labels.now c.args.on.predecessors.now k) c.loop-place.place-index c.loop-place.invariant (λ lt. c.if-not-holds_along.ensures refl)
