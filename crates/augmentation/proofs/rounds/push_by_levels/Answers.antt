use Rattle.std.proofs.Common.{◌+◌, ◌^◌, ◌<◌, arith, rules, subst, sym}
use Rattle.augmentation.specs.Pseudoflow.{IsCertifiedIn}
use Rattle.flow_changes.proofs.PushesLemmas.{ArePushes-more}
use Rattle.augmentation.proofs.SettleLemmas.{HavePushed-more, HavePushed-none, count_fits}
use Rattle.augmentation.proofs.rounds.push_by_levels.Goals as goal

pub loop-scratch-init : goal.loop-scratch-init
loop-scratch-init c = HavePushed-none (subst (IsCertifiedIn c.args.graph.now c.args.flow.now c.args.excess.now) (sym c.scratch.view_is) c.requires.state)

pub overflow_add-pushes : goal.overflow_add-pushes
overflow_add-pushes c =
    let fits = count_fits c.requires.state.state (ArePushes-more c.loop-scratch.invariant.pushes c.push_to_all-more.ensures.pushed.pushes) in
    let bound : c.loop-scratch.pushes + c.push_to_all-more.result < 2 ^ 64 = omega (arith, fits) in
    search (rules, bound)

pub loop-scratch-preserved : goal.loop-scratch-preserved
loop-scratch-preserved c = HavePushed-more c.loop-scratch.invariant c.push_to_all-more.ensures.pushed
