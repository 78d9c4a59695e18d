use Rattle.std.proofs.Common.{refl, arith}
use Rattle.session.proofs.Numbers.{in_order, listed_more, all_listed}
use Rattle.session.proofs.differences.differences.Goals as goal

pub overflow_sub-number : goal.overflow_sub-number
overflow_sub-number g c =
    let order = in_order c.in_ok-numbers.numbers.items c.sort_unstable.new.self.items c.args.old.now c.args.new.now c.sort_unstable.ensures.permutation c.deref-number-items.result.now c.in_ok-numbers.ensures.differ c.in_ok-numbers.ensures.named c.in_ok-numbers.ensures.apart c.sort_unstable.ensures.sorted c.deref-number-items.ensures.value in
    let at = order.differ c.loop-number.number-index 0 c.loop-number-test.true in
    omega (arith, at.0, at.1)

pub offset_bounds-old-number : goal.offset_bounds-old-number
offset_bounds-old-number g c =
    let order = in_order c.in_ok-numbers.numbers.items c.sort_unstable.new.self.items c.args.old.now c.args.new.now c.sort_unstable.ensures.permutation c.deref-number-items.result.now c.in_ok-numbers.ensures.differ c.in_ok-numbers.ensures.named c.in_ok-numbers.ensures.apart c.sort_unstable.ensures.sorted c.deref-number-items.ensures.value in
    let at = order.differ c.loop-number.number-index 0 c.loop-number-test.true in
    omega (arith, at.0, at.1)

pub bounds-old-number : goal.bounds-old-number
bounds-old-number g c =
    let order = in_order c.in_ok-numbers.numbers.items c.sort_unstable.new.self.items c.args.old.now c.args.new.now c.sort_unstable.ensures.permutation c.deref-number-items.result.now c.in_ok-numbers.ensures.differ c.in_ok-numbers.ensures.named c.in_ok-numbers.ensures.apart c.sort_unstable.ensures.sorted c.deref-number-items.ensures.value in
    let at = order.differ c.loop-number.number-index 0 c.loop-number-test.true in
    omega (arith, at.0, at.1)

-- one number more is listed
pub loop-number-preserved : goal.loop-number-preserved
loop-number-preserved g c =
    let kept = c.loop-number.invariant in
    let order = in_order c.in_ok-numbers.numbers.items c.sort_unstable.new.self.items c.args.old.now c.args.new.now c.sort_unstable.ensures.permutation c.deref-number-items.result.now c.in_ok-numbers.ensures.differ c.in_ok-numbers.ensures.named c.in_ok-numbers.ensures.apart c.sort_unstable.ensures.sorted c.deref-number-items.ensures.value in
    record {
      listed = rw c.push_reserved.ensures.items (listed_more c.deref-number-items.result.now c.args.old.now c.args.new.now c.requires.fewer order c.loop-number.found.items c.loop-number.number-index _ c.index-old-number.result kept.listed c.loop-number-test.true refl c.index-old-number.is);
      room = rw c.push_reserved.ensures.capacity kept.room;
    }

pub returns : goal.returns
returns g c =
    let order = in_order c.in_ok-numbers.numbers.items c.sort_unstable.new.self.items c.args.old.now c.args.new.now c.sort_unstable.ensures.permutation c.deref-number-items.result.now c.in_ok-numbers.ensures.differ c.in_ok-numbers.ensures.named c.in_ok-numbers.ensures.apart c.sort_unstable.ensures.sorted c.deref-number-items.ensures.value in
    all_listed c.deref-number-items.result.now c.args.old.now c.args.new.now c.requires.fewer order c.loop-number.found.items c.loop-number.number-index c.loop-number.invariant.listed (omega arith)
