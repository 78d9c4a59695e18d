use Rattle.std.proofs.Common.{ℕ, Option, subst}
use Rattle.residual_graph.specs.Walk.{HasCome}
use Rattle.residual_graph.proofs.WalkLemmas.{come_next}
use Rattle.cuts.specs.Cut.{IsClosedAlong}
use Rattle.cuts.proofs.CutLemmas.{far_all}
use Rattle.cuts.proofs.side.way_out_at.Goals as goal

pub loop-current-preserved : goal.loop-current-preserved
loop-current-preserved c =
    let P : ℕ → Type 0 = IsClosedAlong c.args.on.side c.args.on.graph.now.rows c.args.on.flow.now c.args.marked.now in
    let come = subst (λ (o : Option ℕ). HasCome c.args.on.graph.now c.args.node o P) c.in-Some.is c.loop-current.invariant in
    come_next c.args.on.graph.now c.args.node c.in-Some.end c.next_end-current.result P P come (c.next_end-current.ensures.next c.args.node come.stands.1) (λ k closed. closed) c.in_default-way_out_along.ensures.none

pub returns-clause-none : goal.returns-clause-none
returns-clause-none c =
    let P : ℕ → Type 0 = IsClosedAlong c.args.on.side c.args.on.graph.now.rows c.args.on.flow.now c.args.marked.now in
    far_all c.args.on.side c.args.on.graph.now c.args.on.flow.now c.args.marked.now c.args.node c.requires.marked (subst (λ (o : Option ℕ). HasCome c.args.on.graph.now c.args.node o P) c.in_default.is c.loop-current.invariant)
