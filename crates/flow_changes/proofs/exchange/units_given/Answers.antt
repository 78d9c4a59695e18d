use Rattle.std.proofs.Common.{◌≡◌, ◌∙◌, ◌+◌, ◌<◌, arith, length, pos, rules, subst, sym, true, w64, to_z, of_z, SFits}
use Rattle.std.proofs.lemmas.Int.{to_z-of_z}
use Rattle.std.proofs.lemmas.List.{get_or_read}
use Rattle.residual_graph.specs.Residual.{number_at}
use Rattle.flow_changes.specs.Changes.{IsNearer}
use Rattle.flow_changes.specs.Push.{part_above_0}
use Rattle.tracked.specs.Marks.{in_set}
use Rattle.tracked.specs.NodeLists.{node_at}
use Rattle.flow_changes.proofs.ExchangeLemmas.{AreGiven, AreGiven-all, AreGiven-more, AreGiven-none}
use Rattle.flow_changes.proofs.exchange.units_given.Goals as goal

pub loop-place-init : goal.loop-place-init
loop-place-init c = λ before is. AreGiven-none c.args.journal.now before c.args.excess.now c.places-place-items.result.now c.places-place-items.ensures.listed is

pub loop-place-preserved : goal.loop-place-preserved
loop-place-preserved c = λ before is.
    (let journal = c.args.journal.now in
    let now = c.args.excess.now in
    let places = c.places-place-items.result.now in
    let j = c.loop-place.place-index in
    let v = node_at places j in
    let n = c.loop-place.units in
    let m = c.in_ok-given.field-0 in
    let noted : in_set journal.written v ≡ true = c.places-place-items.ensures.noted j 0 c.loop-place-test.true in
    let there : v < length now = c.requires.places v noted in
    let in_before : v < length journal.before.items = omega (arith, there, c.requires.room) in
    let fits_before : SFits w64 c.index.result.now = search rules in
    let fits_now : SFits w64 (number_at now v) = search rules in
    let before_is : to_z w64 (of_z w64 c.index.result.now) ≡ number_at before v = to_z-of_z w64 c.index.result.now fits_before ∙ get_or_read journal.before.items v c.index.result.now in_before c.index.ensures (pos 0) ∙ is.before v noted in
    let gave : IsNearer (number_at before v) (number_at now v) × (m + part_above_0 (number_at now v) ≡ part_above_0 (number_at before v)) = rw (sym before_is) (rw (sym (to_z-of_z w64 (number_at now v) fits_now)) c.in_ok-given.ensures) in
    let units : n + m ≡ c.in_ok-units.units = omega (arith, c.in_ok-units.ensures.1) in
    subst (AreGiven places (j + 1) before now) units (AreGiven-more places j before now n m c.places-place-items.ensures.apart c.loop-place-test.true there gave.0 gave.1 (c.loop-place.invariant before is)))

pub returns : goal.returns
returns c = λ before is. AreGiven-all c.places-place-items.result.now c.loop-place.place-index before c.args.excess.now c.loop-place.units (c.loop-place.invariant before is) c.loop-place-test.false
