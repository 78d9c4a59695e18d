use Rattle.std.proofs.Common.{◌+◌, ◌^◌, ◌<◌, arith, rules}
use Rattle.augmentation.proofs.SettleLemmas.{HavePushed-more, HavePushed-none, count_fits}
use Rattle.augmentation.proofs.pushes.push_to_all.Goals as goal

pub loop-target-init : goal.loop-target-init
loop-target-init c = record { pushed = HavePushed-none c.requires.state; forest = c.requires.forest }

pub overflow_add-pushes : goal.overflow_add-pushes
overflow_add-pushes c =
    let fits = count_fits c.requires.state.state (HavePushed-more c.loop-target.invariant.pushed c.push_all_to-pushes.ensures.pushed).pushes in
    let bound : c.loop-target.pushes + c.push_all_to-pushes.result < 2 ^ 64 = omega (arith, fits) in
    search (rules, bound)

pub loop-target-preserved : goal.loop-target-preserved
loop-target-preserved c =
    let call = c.push_all_to-pushes.ensures in
    record { pushed = HavePushed-more c.loop-target.invariant.pushed call.pushed; forest = call.forest }
