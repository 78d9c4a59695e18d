use Rattle.std.proofs.Common.{ap, arith}
use Rattle.std.proofs.lemmas.Int.{ints, clamps}
use Rattle.residual_graph.specs.Residual.{number_at}
use Rattle.flow_changes.proofs.PushLemmas.{HasRoom-weaker}
use Rattle.augmentation.proofs.augment.amount_along.Goals as goal

pub returns-clause-in_deficit : goal.returns-clause-in_deficit
returns-clause-in_deficit c =
    let low = c.requires.small.low c.args.path.target in
    let high = c.requires.small.high c.bottleneck-root.result.0 in
    let root_low = c.requires.small.low c.bottleneck-root.result.0 in
    omega (arith, ints, clamps, c.min.ensures.value, low, high, root_low, c.requires.some_deficit, c.bottleneck-root.ensures.at_most, c.bottleneck-root.ensures.at_least_0)

pub returns-clause-room : goal.returns-clause-room
returns-clause-room c =
    let low = c.requires.small.low c.bottleneck-root.result.0 in
    let high = c.requires.small.high c.bottleneck-root.result.0 in
    HasRoom-weaker _ _ c.bottleneck-root.result.1 _ _ (omega (arith, ints, clamps, c.min.ensures.value, low, high, c.bottleneck-root.ensures.at_least_0)) c.bottleneck-root.ensures.room

pub returns-clause-some : goal.returns-clause-some
returns-clause-some c = λ can.
    (let high = c.requires.small.high c.bottleneck-root.result.0 in
    let same = ap (number_at c.args.excess.now) c.bottleneck-root.ensures.root in
    omega (arith, ints, clamps, c.min.ensures.value, high, same, can.gives, c.bottleneck-root.ensures.some can.paths))
