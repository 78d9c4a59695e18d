use Rattle.std.proofs.Common.{arith}
use Rattle.session.proofs.Exchanges.{flow_step}
use Rattle.session.proofs.swaps.swap_flows.Goals as goal

pub loop-place-preserved : goal.loop-place-preserved
loop-place-preserved c =
    let kept = c.loop-place.invariant in
    flow_step c.args.tables.now.moment c.loop-place.tables.moment c.swap_flow.new.self.moment c.args.places.now c.loop-place.places c.loop-place.place-index c.swap_flow.new.value c.requires.in_range.verdict c.requires.fit (omega arith) kept.places kept.moment c.swap_flow.ensures.value c.swap_flow.ensures.moment
