use Rattle.std.proofs.Common.{◌≡◌, ◌∙◌, ◌+◌, ◌<◌, ◌^◌, ap, arith, length, pos, rules, subst, sym, w64, to_z, of_z, SFits}
use Rattle.std.proofs.lemmas.Int.{to_z-of_z}
use Rattle.std.proofs.lemmas.List.{get_or_read}
use Rattle.residual_graph.specs.Residual.{number_at}
use Rattle.cuts.specs.Cut.{amount, amount_of}
use Rattle.flow_changes.specs.Push.{AreSmall}
use Rattle.tracked.specs.NodeLists.{node_at}
use Rattle.tracked.proofs.TouchedLemmas.{noted_in}
use Rattle.cuts.proofs.ExcessLemmas.{IsCounted, IsCounted-all, IsCounted-more, IsCounted-none, amount-small}
use Rattle.cuts.proofs.excess.Excess.amount.Goals as goal

pub loop-place-init : goal.loop-place-init
loop-place-init c = IsCounted-none c.args.side c.self.inside.unbalanced c.self.inside.entries.items c.places-place-items.result.now c.self.invariant.0 c.places-place-items.ensures.listed

pub loop-place-preserved : goal.loop-place-preserved
loop-place-preserved c =
    let e = c.self.inside.entries.items in
    let places = c.places-place-items.result.now in
    let j = c.loop-place.place-index in
    let v = node_at places j in
    let marked = noted_in c.self.inside.unbalanced v (c.places-place-items.ensures.noted j 0 c.loop-place-test.true) in
    let there : v < length e = omega (arith, marked, c.self.invariant.0.one_a_node) in
    let fits : SFits w64 c.index.result.now = search rules in
    let read : to_z w64 (of_z w64 c.index.result.now) ≡ number_at e v = to_z-of_z w64 c.index.result.now fits ∙ get_or_read e v c.index.result.now there c.index.ensures (pos 0) in
    let come : c.amount_of-sum.result ≡ amount_of c.args.side (number_at e v) = c.amount_of-sum.ensures ∙ ap (amount_of c.args.side) read in
    subst (IsCounted c.args.side places (j + 1) e) (ap (λ m. c.loop-place.sum + m) (sym come)) (IsCounted-more c.args.side places j e c.loop-place.sum c.places-place-items.ensures.apart c.loop-place-test.true there c.loop-place.invariant)

pub overflow_add-sum : goal.overflow_add-sum
overflow_add-sum c =
    let e = c.self.inside.entries.items in
    let counted : IsCounted c.args.side c.places-place-items.result.now (c.loop-place.place-index + 1) e (c.loop-place.sum + c.amount_of-sum.result) = loop-place-preserved c in
    let most = amount-small c.args.side e (subst AreSmall (sym c.self.view_is) c.requires.small) (omega (arith, ap length c.self.view_is, c.requires.few)) in
    let fits : c.loop-place.sum + c.amount_of-sum.result < 2 ^ 64 = omega (arith, counted.units, most) in
    search (rules, fits)

pub returns : goal.returns
returns c = IsCounted-all c.args.side c.places-place-items.result.now c.loop-place.place-index c.self.inside.entries.items c.loop-place.sum c.loop-place.invariant c.loop-place-test.false ∙ ap (amount c.args.side) c.self.view_is
