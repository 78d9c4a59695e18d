use Rattle.std.proofs.Common.{◌-◌, arith, drop, refl}
use Rattle.flow_solver.specs.declared.part.Part.TheVariants.{Arc, Last, Gone}
use Rattle.flow_solver.specs.Part.{before_all}
use Rattle.flow_solver.proofs.LogLemmas.{IsArcAt, before_previous, can_previous, row_found, row_passed, row_gone, row_left}
use Rattle.flow_solver.proofs.part.row_before.Goals as goal
use Rattle.flow_solver.proofs.part.row_before.Goals.{then-arcs-k, else-arcs-k}

pub loop-i-preserved-then-arc-k : goal.loop-i-preserved-then-arc-k
loop-i-preserved-then-arc-k c =
    let log = c.args.log.now in
    let I = c.args.net.now in
    let i = c.loop-i.i in
    let other = c.in-Arc.other in
    let is = rw c.if-arc-k.true at c.in-Arc.is in
    let can = can_previous log i _ (Arc c.args.k other) I c.loop-i-test.true c.loop-i.invariant.inside is c.requires in
    let back = before_previous log i _ (Arc c.args.k other) I c.loop-i-test.true c.loop-i.invariant.inside is in
    record { inside = omega (arith, c.loop-i.invariant.inside); arc = rw back (row_found c.args.k other (before_all (drop i log) I) c.loop-i.row c.loop-i.arcs can c.loop-i.invariant.arc) }

pub loop-i-preserved-else-arc-k : goal.loop-i-preserved-else-arc-k
loop-i-preserved-else-arc-k c =
    let log = c.args.log.now in
    let I = c.args.net.now in
    let i = c.loop-i.i in
    let a = c.in-Arc.arc in
    let other = c.in-Arc.other in
    let can = can_previous log i _ (Arc a other) I c.loop-i-test.true c.loop-i.invariant.inside c.in-Arc.is c.requires in
    let back = before_previous log i _ (Arc a other) I c.loop-i-test.true c.loop-i.invariant.inside c.in-Arc.is in
    record { inside = omega (arith, c.loop-i.invariant.inside); arc = rw back (row_passed c.args.k a other (before_all (drop i log) I) c.loop-i.row c.loop-i.arcs c.if-arc-k.false can c.loop-i.invariant.arc) }

pub overflow_sub-arcs : goal.overflow_sub-arcs
overflow_sub-arcs c =
    let can = can_previous c.args.log.now c.loop-i.i _ Last c.args.net.now c.loop-i-test.true c.loop-i.invariant.inside c.in-Last.is c.requires in
    omega (arith, can, c.loop-i.invariant.arc.many)

pub loop-i-preserved : goal.loop-i-preserved
loop-i-preserved c =
    let log = c.args.log.now in
    let I = c.args.net.now in
    let i = c.loop-i.i in
    let J = before_all (drop i log) I in
    let can = can_previous log i _ Last I c.loop-i-test.true c.loop-i.invariant.inside c.in-Last.is c.requires in
    let back = before_previous log i _ Last I c.loop-i-test.true c.loop-i.invariant.inside c.in-Last.is in
    let arc : IsArcAt c.args.k (before_all (drop (i - 1) log) I) c.if-arcs-k.row (c.loop-i.arcs - 1) =
    elim c.if-arcs-k.branch [
      | then-arcs-k w ↦ rw (back, w.row-is) (row_gone c.args.k J c.loop-i.row c.loop-i.arcs (c.loop-i.arcs - 1) w.if-arcs-k.true refl can c.loop-i.invariant.arc)
      | else-arcs-k w ↦ rw (back, w.row-is) (row_left c.args.k J c.loop-i.row c.loop-i.arcs (c.loop-i.arcs - 1) w.if-arcs-k.false refl can c.loop-i.invariant.arc)
    ] in
    record { inside = omega (arith, c.loop-i.invariant.inside); arc = arc }

pub unreachable-requires : goal.unreachable-requires
unreachable-requires c = can_previous c.args.log.now c.loop-i.i _ (Gone c.in-Gone.row c.in-Gone.flow) c.args.net.now c.loop-i-test.true c.loop-i.invariant.inside c.in-Gone.is c.requires
