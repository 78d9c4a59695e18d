use Rattle.std.proofs.Common.{refl, arith}
use Rattle.std.proofs.lemmas.List.FromFn.{map-range_with_len_more}
use Rattle.c_calls.specs.Arrays.{array_row}
use Rattle.c_calls.proofs.arrays.rows_of.Goals as goal

pub loop-place-preserved : goal.loop-place-preserved
loop-place-preserved c =
    let more = map-range_with_len_more (array_row c.args.arrays.now) 0 c.loop-place.place c.loop-place.place (omega arith) in
    rw (c.in_ok-push.ensures.items, c.loop-place.invariant, c.row_at.ensures, more) refl
