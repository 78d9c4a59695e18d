use Rattle.std.proofs.Common.{◌≡◌, ◌-ℤ◌, arith, pos, sym, w64, to_z, of_z, slice_set}
use Rattle.std.proofs.lemmas.Int.{ints}
use Rattle.std.proofs.lemmas.List.{get_or-set_other}
use Rattle.residual_graph.specs.Residual.{number_at}
use Rattle.flow_changes.proofs.PushLemmas.{IsTransfer-put}
use Rattle.augmentation.proofs.augment.transfer.Goals as goal

pub returns : goal.returns
returns c =
    let low = c.requires.small.low c.args.source in
    let high = c.requires.small.high c.args.source in
    let low_t = c.requires.small.low c.args.target in
    let high_t = c.requires.small.high c.args.target in
    let less = to_z w64 (of_z w64 (to_z w64 (of_z w64 (number_at c.args.excess.now c.args.source)) -ℤ to_z w64 (of_z w64 c.args.amount))) in
    let kept : number_at (slice_set c.args.excess.now c.args.source less) c.args.target ≡ number_at c.args.excess.now c.args.target =
    get_or-set_other c.args.excess.now c.args.source c.args.target less (pos 0) (λ e. c.requires.apart (sym e)) in
    IsTransfer-put c.args.source c.args.target c.args.amount c.args.excess.now _ _ c.requires.source_in c.requires.target_in c.requires.apart
    (omega (arith, ints, low, high)) (rw kept (omega (arith, ints, low_t, high_t, low, high)))
