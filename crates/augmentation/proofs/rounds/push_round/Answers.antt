use Rattle.std.proofs.Common.{◌+◌, ◌^◌, ◌<◌, arith, rules, subst}
use Rattle.std.specs.Prelude.{Bool}
use Rattle.flow_changes.specs.Push.{one_if}
use Rattle.augmentation.specs.Pushes.{HavePushed}
use Rattle.flow_changes.proofs.PushesLemmas.{ArePushes-more}
use Rattle.augmentation.proofs.SettleLemmas.{HavePushed-more, count_fits}
use Rattle.augmentation.proofs.rounds.push_round.Goals as goal
use Rattle.augmentation.proofs.rounds.push_round.Goals.{After-push_to}

first : (c : After-push_to) → HavePushed c.args.graph.now 1 c.args.flow.now c.push_to.new.flow c.args.excess.now c.push_to.new.excess c.args.scratch.now
first c = subst (λ (b : Bool). HavePushed c.args.graph.now (one_if b) c.args.flow.now c.push_to.new.flow c.args.excess.now c.push_to.new.excess c.args.scratch.now) (c.push_to.ensures.some c.requires.found) c.push_to.ensures.pushed

pub overflow_add-pushes : goal.overflow_add-pushes
overflow_add-pushes c =
    let s = (goal.at.overflow_add-pushes c).After-push_to in
    let fits = count_fits c.requires.state.state (ArePushes-more (first s).pushes c.push_to_all-pushes.ensures.pushed.pushes) in
    let bound : 1 + c.push_to_all-pushes.result < 2 ^ 64 = omega (arith, fits) in
    search (rules, bound)

pub overflow_add-result : goal.overflow_add-result
overflow_add-result c =
    let s = (goal.at.overflow_add-result c).After-push_to in
    let fits = count_fits c.requires.state.state (ArePushes-more (ArePushes-more (first s).pushes c.push_to_all-pushes.ensures.pushed.pushes) c.push_by_levels.ensures.pushed.pushes) in
    let bound : 1 + c.push_to_all-pushes.result + c.push_by_levels.result < 2 ^ 64 = omega (arith, fits) in
    search (rules, bound)

pub returns-clause-pushed : goal.returns-clause-pushed
returns-clause-pushed c =
    let s = (goal.at.returns-clause-pushed c).After-push_to in
    HavePushed-more (HavePushed-more (first s) c.push_to_all-pushes.ensures.pushed) c.push_by_levels.ensures.pushed
