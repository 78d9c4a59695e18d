use Rattle.std.proofs.Common.{arith}
use Rattle.tracked.proofs.TrackedLemmas.{AreLeft-start, AreLeft-more, AreLeft-past, AreLeft-all}
use Rattle.tracked.proofs.tracked.catch_up.Goals as goal
use Rattle.tracked.proofs.tracked.catch_up.Goals.{then-k-table, else-k-table}

pub loop-place-init : goal.loop-place-init
loop-place-init g c = AreLeft-start c.args.places.now c.args.table.now c.args.other.now c.requires.same_length c.requires.named

pub loop-place-preserved : goal.loop-place-preserved
loop-place-preserved g c =
    let places = c.args.places.now in
    let other = c.args.other.now in
    elim c.if-k-table.branch [
      | then-k-table w ↦ rw w.table-is (AreLeft-more places c.loop-place.place-index c.loop-place.table other w.index-other-k.result c.loop-place.invariant w.if-k-table.true w.index-other-k.is)
      | else-k-table w ↦ rw w.table-is (AreLeft-past places c.loop-place.place-index c.loop-place.table other c.loop-place.invariant w.if-k-table.false)
    ]

pub returns : goal.returns
returns g c = AreLeft-all c.args.places.now c.loop-place.place-index c.loop-place.table c.args.other.now c.loop-place.invariant (omega arith)
