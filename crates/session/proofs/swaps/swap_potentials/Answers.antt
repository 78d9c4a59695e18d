use Rattle.std.proofs.Common.{arith}
use Rattle.session.proofs.Exchanges.{potential_step}
use Rattle.session.proofs.swaps.swap_potentials.Goals as goal

pub loop-place-preserved : goal.loop-place-preserved
loop-place-preserved c =
    let kept = c.loop-place.invariant in
    potential_step c.args.tables.now.moment c.loop-place.tables.moment c.swap_potential.new.self.moment c.args.places.now c.loop-place.places c.loop-place.place-index c.swap_potential.new.value c.requires.fit (omega arith) kept.places kept.moment c.swap_potential.ensures.value c.swap_potential.ensures.moment
