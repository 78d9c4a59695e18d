use Rattle.std.proofs.Common.{arith}
use Rattle.session.proofs.Exchanges.{mark_step}
use Rattle.session.proofs.swaps.swap_marks.Goals as goal

pub loop-place-preserved : goal.loop-place-preserved
loop-place-preserved c =
    let kept = c.loop-place.invariant in
    mark_step c.args.tables.now.moment c.loop-place.tables.moment c.swap_mark.new.self.moment c.args.places.now c.loop-place.places c.loop-place.place-index c.swap_mark.new.value c.requires.fit (omega arith) kept.places kept.moment c.swap_mark.ensures.value c.swap_mark.ensures.moment
