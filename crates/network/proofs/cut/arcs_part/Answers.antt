use Rattle.std.proofs.Common.{◌+◌, ◌*◌, ◌^◌, ◌<◌, ◌≤◌, length, slice_index_or, unsigned_abs, to_z, arith}
use Rattle.std.proofs.lemmas.Int.{ints}
use mir.Syntax.{w64}
use Rattle.dimacs_text.specs.declared.problem.TheConstants.{CAP_LIMIT}
use Rattle.dimacs_text.specs.Lawful.{IsLawfulRow}
use Rattle.network.specs.Cut.{arc_part}
use Rattle.network.specs.Instance.{is_marked}
use Rattle.network.proofs.EndLemmas.{no_arc}
use Rattle.network.proofs.IntegerAlgebra.{linear}
use Rattle.network.proofs.CutSums.{added, arcs_sum-step}
use Rattle.network.proofs.cut.arcs_part.Goals as goal

pub loop-arc-preserved : goal.loop-arc-preserved
loop-arc-preserved c =
    let limits : IsLawfulRow (length c.args.cut.now) (slice_index_or c.args.arcs.now c.loop-arc.arc-index no_arc) = c.requires.limits c.loop-arc.arc-index no_arc c.loop-arc-test.true in
    let small = c.arc_part-total.ensures.small in
    let term : unsigned_abs c.arc_part-total.result ≤ 2 * CAP_LIMIT = omega (arith, ints) in
    let invariant = c.loop-arc.invariant in
    let fits : 2 * CAP_LIMIT * (c.loop-arc.arc-index + 1) < 2 ^ 63 = omega (arith, c.requires.few, c.loop-arc-test.true) in
    let next = added (to_z w64 c.loop-arc.total-bits) c.arc_part-total.result (2 * CAP_LIMIT) c.loop-arc.arc-index invariant.size term fits in
    let part = c.arc_part-total.ensures.value in
    let rest = arcs_sum-step (arc_part c.args.form (is_marked c.args.cut.now)) c.args.arcs.now c.loop-arc.arc-index no_arc c.loop-arc-test.true in
    let sum = invariant.sum in
    rw next.0 (record { sum = omega (arith, linear); size = next.1 })
