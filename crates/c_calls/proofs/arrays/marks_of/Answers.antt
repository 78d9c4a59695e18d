use Rattle.std.proofs.Common.{◌≡◌, refl, pos, slice_index_or, to_z, of_z, arith}
use mir.Syntax.{w64}
use Rattle.std.proofs.lemmas.Int.{ints}
use Rattle.std.proofs.lemmas.List.FromFn.{map-range_with_len_more}
use Rattle.c_calls.specs.Arrays.{mark_at}
use Rattle.c_calls.proofs.arrays.marks_of.Goals as goal

pub loop-place-preserved : goal.loop-place-preserved
loop-place-preserved c =
    let supply = slice_index_or c.args.supply.now c.loop-place.place (pos 0) in
    let back : to_z w64 (of_z w64 supply) ≡ supply = omega (arith, ints) in
    let more = map-range_with_len_more (mark_at c.args.supply.now) 0 c.loop-place.place c.loop-place.place (omega arith) in
    rw (c.in_ok-push.ensures.items, c.loop-place.invariant, more, back) refl
