use Rattle.std.proofs.Common.{ap, arith, ◌∷◌, [], length, length-append}
use Rattle.flow_solver.specs.Moment.{Snapshot}
use Rattle.flow_solver.proofs.GroupLemmas.{last_can, last_fits, taken_back}
use Rattle.flow_solver.proofs.tables.changes.take_back_all.Goals as goal

pub take_back-requires : goal.take_back-requires
take_back-requires c =
    let popped = rw (← c.pop_part.ensures.moment) at (rw (c.pop_part.ensures.some c.in-Some.part c.in-Some.is) at c.loop-part.invariant) in
    record { can = last_can _ _ _ _ _ popped; kept = last_fits _ _ _ _ _ popped }

pub loop-part-preserved : goal.loop-part-preserved
loop-part-preserved c =
    let popped = rw (← c.pop_part.ensures.moment) at (rw (c.pop_part.ensures.some c.in-Some.part c.in-Some.is) at c.loop-part.invariant) in
    rw (c.take_back.ensures.kept, c.take_back.ensures.instance) (taken_back _ _ _ _ _ popped)

pub loop-part-smaller : goal.loop-part-smaller
loop-part-smaller c =
    let was = ap (λ (k : Snapshot). length k.log) (c.pop_part.ensures.some c.in-Some.part c.in-Some.is) in
    let now = ap (λ (k : Snapshot). length k.log) c.take_back.ensures.kept in
    omega (arith, was, now, length-append c.pop_part.new.self.kept.log (c.in-Some.part ∷ []))
