use Rattle.std.proofs.Common.{◌≡◌, ◌+◌, ◌^◌, ◌<◌, ℕ, arith, rules, subst}
use Rattle.std.specs.Prelude.{Bool, true}
use Rattle.flow_changes.specs.Push.{one_if}
use Rattle.augmentation.specs.Pushes.{HavePushed}
use Rattle.augmentation.proofs.SettleLemmas.{HavePushed-more, HavePushed-none, count_fits}
use Rattle.augmentation.proofs.pushes.push_all_to.Goals as goal
use Rattle.augmentation.proofs.pushes.push_all_to.Goals.{After-push_once}

pub loop-pushes-init : goal.loop-pushes-init
loop-pushes-init c = record { pushed = HavePushed-none c.requires.state; forest = c.requires.forest }

-- with one push more, or none
counted : (c : After-push_once) (b : Bool) → c.push_once.result ≡ b → HavePushed c.args.graph.now (c.loop-pushes.pushes + one_if b) c.args.flow.now c.push_once.new.flow c.args.excess.now c.push_once.new.excess c.push_once.new.scratch
counted c b is = subst (λ (d : Bool). HavePushed c.args.graph.now (c.loop-pushes.pushes + one_if d) c.args.flow.now c.push_once.new.flow c.args.excess.now c.push_once.new.excess c.push_once.new.scratch) is
    (HavePushed-more c.loop-pushes.invariant.pushed c.push_once.ensures.pushed)

pub overflow_add-pushes : goal.overflow_add-pushes
overflow_add-pushes c =
    let s = (goal.at.overflow_add-pushes c).After-push_once in
    let fits = count_fits c.requires.state.state (counted s true c.loop-pushes-test.true).pushes in
    let bound : c.loop-pushes.pushes + 1 < 2 ^ 64 = omega (arith, fits) in
    search (rules, bound)

pub loop-pushes-preserved : goal.loop-pushes-preserved
loop-pushes-preserved c =
    let s = (goal.at.loop-pushes-preserved c).After-push_once in
    record { pushed = counted s true c.loop-pushes-test.true; forest = c.push_once.ensures.forest }

pub returns-clause-pushed : goal.returns-clause-pushed
returns-clause-pushed c =
    let s = (goal.at.returns-clause-pushed c).After-push_once in
    let none : c.loop-pushes.pushes + 0 ≡ c.loop-pushes.pushes = omega arith in
    subst (λ (n : ℕ). HavePushed c.args.graph.now n c.args.flow.now c.push_once.new.flow c.args.excess.now c.push_once.new.excess c.push_once.new.scratch) none (counted s _ c.loop-pushes-test.false)
