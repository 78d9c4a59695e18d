use Rattle.std.proofs.Common.{◌≡◌, ◌∙◌, ℤ, List, ap, length, subst, sym}
use Rattle.std.specs.Prelude.{All}
use Rattle.std.specs.Vec.{with_items}
use Rattle.std.proofs.lemmas.List.{with_items_is}
use Rattle.tracked.specs.Journal.{IsSince}
use Rattle.cuts.specs.Excess.{AreUnbalancedListed, IsBalancedOrListed}
use Rattle.cuts.proofs.ExcessLemmas.{listed_back}
use Rattle.augmentation.proofs.adoption.take_back.Goals as goal

pub invariant_of-excess : goal.invariant_of-excess
invariant_of-excess c =
    let e = c.excess.inside in
    let j = c.args.attempt.now.trial.excess in
    let es = c.requires.since.0 in
    let listed = c.note_unbalanced.new.unbalanced in
    let since : IsSince j es e.entries.items = subst (IsSince j es) (sym c.excess.view_is) c.requires.since.1 in
    let back : (with_items e.entries c.bring_back.new.table).items ≡ es =
    with_items_is e.entries c.bring_back.new.table (c.bring_back.auto.table ∙ c.deref_mut.ensures.len) ∙ c.bring_back.ensures es (subst (IsSince j es) (sym c.deref_mut.ensures.value) since) in
    let noted : All (IsBalancedOrListed listed es) c.places.result.now = subst (λ (f : List ℤ). All (IsBalancedOrListed listed f) c.places.result.now) (c.deref-2.ensures.value ∙ back) c.note_unbalanced.ensures.noted in
    let are : AreUnbalancedListed listed es = listed_back e.unbalanced listed j es e.entries.items c.places.result.now c.excess.invariant.0 since c.note_unbalanced.ensures.same_size c.note_unbalanced.ensures.still c.places.ensures.listed noted in
    (subst (AreUnbalancedListed listed) (sym back) are, c.excess.invariant.1 ∙ since.same_length ∙ ap length (sym back))
