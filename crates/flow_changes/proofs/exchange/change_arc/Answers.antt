use Rattle.std.proofs.Common.{◌≡◌, ◌∙◌, ◌<◌, ℕ, ℤ, List, ap, arith, length, pos, rules, subst, sym, w64, to_z, of_z, SFits, ◌-ℤ◌}
use Rattle.std.specs.Prelude.{slice_set}
use Rattle.std.proofs.lemmas.Int.{ints, clamps, to_z-of_z}
use Rattle.std.proofs.lemmas.List.{get_or_default, get_or_read, set-get_or, set-set}
use Rattle.dimacs_text.specs.declared.problem.ArcRow.{ArcRow}
use Rattle.residual_graph.specs.Residual.{IsRow, IsWithinRow, number_at}
use Rattle.flow_changes.specs.Exchange.{AreChanged, RisesBetween}
use Rattle.flow_changes.specs.Push.{IsTransfer}
use Rattle.flow_changes.proofs.ExchangeLemmas.{after-set, changed-same, rises-set}
use Rattle.flow_changes.proofs.PushLemmas.{IsFlow-set}
use Rattle.flow_changes.proofs.exchange.change_arc.Goals as goal
use Rattle.flow_changes.proofs.exchange.change_arc.Goals.{After-min-goal}

-- the goal and the flow that stands are within the bounds of the arc
record IsGoal (c : After-min-goal) : Type 0 where
  k_in : c.args.change.now.arc < length c.args.flow.now.entries
  lt : c.args.change.now.arc < length c.args.graph.now.rows
  row : IsRow (length c.args.excess.now) c.row-row.result
  goal_is : to_z w64 (of_z w64 c.min-goal.result) ≡ c.min-goal.result
  before_is : to_z w64 (of_z w64 c.get-before.result) ≡ number_at c.args.flow.now.entries c.args.change.now.arc
  within : IsWithinRow c.row-row.result (to_z w64 (of_z w64 c.min-goal.result))
  before : IsWithinRow c.row-row.result (number_at c.args.flow.now.entries c.args.change.now.arc)

is_goal : (c : After-min-goal) → IsGoal c
is_goal c =
    let k = c.args.change.now.arc in
    let x = c.args.flow.now.entries in
    let a = c.row-row.result in
    let k_in : k < length x = subst (λ (y : List ℤ). k < length y) c.entries.ensures (omega (arith, c.if-k-entries.false)) in
    let lt : k < length c.args.graph.now.rows = omega (arith, k_in, c.requires.flow.same_length) in
    let row : IsRow (length c.args.excess.now) a = subst (IsRow (length c.args.excess.now)) (sym c.row-row.ensures) (c.requires.flow.rows k lt) in
    let fits_goal : SFits w64 c.min-goal.result = search rules in
    let fits_max : SFits w64 c.max.result = search rules in
    let fits_before : SFits w64 c.get-before.result = search rules in
    let goal_is = to_z-of_z w64 c.min-goal.result fits_goal in
    let max_is = to_z-of_z w64 c.max.result fits_max in
    let fits_low : SFits w64 a.low = search rules in
    let fits_cap : SFits w64 a.cap = search rules in
    let low_is = to_z-of_z w64 a.low fits_low in
    let cap_is = to_z-of_z w64 a.cap fits_cap in
    record {
      k_in = k_in;
      lt = lt;
      row = row;
      goal_is = goal_is;
      before_is = to_z-of_z w64 c.get-before.result fits_before ∙ get_or_read x k c.get-before.result k_in c.get-before.ensures (pos 0);
      within = record {
        low_kept = omega (arith, ints, clamps, goal_is, max_is, low_is, cap_is, c.min-goal.ensures.value, c.max.ensures.value, row.low_at_most_cap);
        cap_kept = omega (arith, ints, clamps, goal_is, cap_is, c.min-goal.ensures.value);
      };
      before = subst (λ (b : ArcRow). IsWithinRow b (number_at x k)) (sym c.row-row.ensures) (c.requires.flow.within k lt);
    }

fits_amount : (c : After-min-goal) → SFits w64 (to_z w64 (of_z w64 c.min-goal.result) -ℤ to_z w64 (of_z w64 c.get-before.result))
fits_amount c =
    let is = is_goal c in
    omega (arith, ints, is.before_is, is.row.low_at_least_0, is.row.cap_in, is.within.low_kept, is.within.cap_kept, is.before.low_kept, is.before.cap_kept)

pub overflow_sub-amount : goal.overflow_sub-amount
overflow_sub-amount c = fits_amount (goal.at.overflow_sub-amount c).After-min-goal

pub returns-then-k-entries-clause-changed : goal.returns-then-k-entries-clause-changed
returns-then-k-entries-clause-changed c = λ _. changed-same c.args.graph.now.rows c.args.ranks.now c.args.flow.now.entries c.args.excess.now c.requires.flow

pub returns-then-amount-eq0-clause-before : goal.returns-then-amount-eq0-clause-before
returns-then-amount-eq0-clause-before c = λ _.
    (let a = (goal.at.returns-then-amount-eq0-clause-before c).After-min-goal in
    let k = c.args.change.now.arc in
    let x = c.args.flow.now.entries in
    let z = to_z w64 (of_z w64 c.min-goal.result) in
    let m = z -ℤ to_z w64 (of_z w64 c.get-before.result) in
    let none : m ≡ pos 0 = sym (to_z-of_z w64 m (fits_amount a)) ∙ ap (to_z w64) c.if-amount-eq0.true in
    let same : number_at x k ≡ z = omega (arith, ints, none, (is_goal a).before_is) in
    subst (λ (y : ℤ). slice_set x k y ≡ x) same (set-get_or x k (pos 0)))

pub returns-then-amount-eq0-clause-changed : goal.returns-then-amount-eq0-clause-changed
returns-then-amount-eq0-clause-changed c = λ _. changed-same c.args.graph.now.rows c.args.ranks.now c.args.flow.now.entries c.args.excess.now c.requires.flow

pub rises_at-requires : goal.rises_at-requires
rises_at-requires c = record { row = subst (λ (n : ℕ). IsRow n c.row-row.result) (sym c.requires.ranks) (is_goal (goal.at.rises_at-requires c).After-min-goal).row }

pub move_excess-requires-clause-row : goal.move_excess-requires-clause-row
move_excess-requires-clause-row c = (is_goal (goal.at.move_excess-requires-clause-row c).After-min-goal).row

pub returns-clause-before : goal.returns-clause-before
returns-clause-before c = λ _.
    (let is = is_goal (goal.at.returns-clause-before c).After-min-goal in
    let k = c.args.change.now.arc in
    let x = c.args.flow.now.entries in
    let z = to_z w64 (of_z w64 c.min-goal.result) in
    let there : c.exchange.new.value ≡ number_at x k = c.exchange.ensures.value ∙ get_or_default x k z (pos 0) is.k_in in
    ap (λ (y : List ℤ). slice_set y k c.exchange.new.value) c.exchange.ensures.entries ∙ set-set x k z c.exchange.new.value ∙ ap (slice_set x k) there ∙ set-get_or x k (pos 0))

pub returns-clause-changed : goal.returns-clause-changed
returns-clause-changed c = λ _.
    (let a = (goal.at.returns-clause-changed c).After-min-goal in
    let is = is_goal a in
    let rows = c.args.graph.now.rows in
    let ranks = c.args.ranks.now in
    let row = c.row-row.result in
    let k = c.args.change.now.arc in
    let x = c.args.flow.now.entries in
    let z = to_z w64 (of_z w64 c.min-goal.result) in
    let m = z -ℤ to_z w64 (of_z w64 c.get-before.result) in
    let e = c.args.excess.now in
    let f = c.move_excess.new.excess in
    let amount : to_z w64 (of_z w64 m) ≡ z -ℤ number_at x k = omega (arith, ints, to_z-of_z w64 m (fits_amount a), is.before_is) in
    let moved : IsTransfer row.tail row.head (z -ℤ number_at x k) e f = subst (λ (n : ℤ). IsTransfer row.tail row.head n e f) amount (c.move_excess.ensures.moved c.if-not-move_excess.false) in
    let rises : RisesBetween row (number_at x k) z ranks = subst (λ (y : ℤ). RisesBetween row y z ranks) is.before_is (c.rises_at.ensures c.if-not-rises_at.false) in
    subst (λ (y : List ℤ). AreChanged rows ranks x e y f) (sym c.exchange.ensures.entries) (record {
      flow = IsFlow-set c.requires.flow k z is.lt (subst (λ (b : ArcRow). IsWithinRow b z) c.row-row.ensures is.within);
      excess = after-set rows x e f k z is.lt c.requires.flow.same_length (subst (λ (b : ArcRow). IsTransfer b.tail b.head (z -ℤ number_at x k) e f) c.row-row.ensures moved);
      rises = rises-set rows x k z ranks is.k_in (subst (λ (b : ArcRow). RisesBetween b (number_at x k) z ranks) c.row-row.ensures rises);
    }))
