use Rattle.std.proofs.Common.{◌∙◌, ℕ, Option, refl, subst, sym}
use Rattle.std.proofs.lemmas.Bool.{not-false}
use Rattle.residual_graph.specs.Walk.{HasCome}
use Rattle.residual_graph.proofs.WalkLemmas.{come_next}
use Rattle.augmentation.specs.Held.{HoldsAlong}
use Rattle.augmentation.proofs.HeldLemmas.{guessed}
use Rattle.augmentation.proofs.held.holds_at.Goals as goal

pub loop-guess-preserved : goal.loop-guess-preserved
loop-guess-preserved c =
    let P : ℕ → Type 0 = HoldsAlong c.args.on.graph.now.rows c.args.on.flow.now c.args.on.labels.now c.args.on.predecessors.now in
    let is = guessed c.loop-guess.current c.in-Some.guess.now (not-false _ (sym c.ne.ensures ∙ c.if-ne.false)) in
    let come = subst (λ (o : Option ℕ). HasCome c.args.on.graph.now c.args.node o P) is c.loop-guess.invariant in
    come_next c.args.on.graph.now c.args.node c.in-Some.guess.now c.next_end-current.result P P come (c.next_end-current.ensures.next c.args.node come.stands.1) (λ k keeps. keeps) (c.if-not-holds_along.ensures refl)

pub loop-current-preserved : goal.loop-current-preserved
loop-current-preserved c =
    let P : ℕ → Type 0 = HoldsAlong c.args.on.graph.now.rows c.args.on.flow.now c.args.on.labels.now c.args.on.predecessors.now in
    let come = subst (λ (o : Option ℕ). HasCome c.args.on.graph.now c.args.node o P) c.in-Some-current.is c.loop-current.invariant in
    come_next c.args.on.graph.now c.args.node c.in-Some-current.end c.next_end-current-in-Some-current.result P P come (c.next_end-current-in-Some-current.ensures.next c.args.node come.stands.1) (λ k keeps. keeps) (c.if-not-holds_along-2.ensures refl)
