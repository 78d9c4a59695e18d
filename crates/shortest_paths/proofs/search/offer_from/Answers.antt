use Rattle.std.proofs.Common.{ℕ, rules, subst}
use Rattle.residual_graph.specs.declared.residual.Way.{Way}
use Rattle.residual_graph.specs.Walk.{HasCome}
use Rattle.residual_graph.proofs.WalkLemmas.{come_first, come_next}
use Rattle.shortest_paths.specs.Progress.{IsServedOn}
use Rattle.shortest_paths.specs.Search.{IsReached}
use Rattle.shortest_paths.proofs.SearchLemmas.{not_both}
use Rattle.shortest_paths.proofs.StepLemmas.{HaveJoined-refl, HaveJoined-trans, served_still}
use Rattle.shortest_paths.proofs.search.offer_from.Goals as goal

pub returns-then-on-node-clause-grown : goal.returns-then-on-node-clause-grown
returns-then-on-node-clause-grown c = HaveJoined-refl _ _ _ _ _

pub returns-then-on-node-clause-served : goal.returns-then-on-node-clause-served
returns-then-on-node-clause-served c = λ k way same at.
    absurd (not_both c.args.on.predecessors.now c.args.node (search rules) (subst (IsReached c.args.on.predecessors.now) same at.from))

pub loop-current-init : goal.loop-current-init
loop-current-init c = record {
  grown = HaveJoined-refl _ _ _ _ _;
  come = come_first _ _ _ _ c.first_end-current.ensures;
}

pub loop-current-preserved : goal.loop-current-preserved
loop-current-preserved c =
    let P = λ (k : ℕ). (way : Way) → IsServedOn c.args.on c.loop-current.queue k way in
    let Q = λ (k : ℕ). (way : Way) → IsServedOn c.args.on c.offer_over.new.queue k way in
    let come = subst (λ o. HasCome c.args.on.graph.now c.args.node o P) c.in-Some.is c.loop-current.invariant.come in
    record {
      grown = HaveJoined-trans _ _ _ _ _ _ _ c.loop-current.invariant.grown c.offer_over.ensures.grown;
      come = come_next c.args.on.graph.now c.args.node c.in-Some.end c.next_end-current.result P Q come (c.next_end-current.ensures.next c.args.node come.stands.1)
          (λ k served way at. served_still _ _ _ _ _ _ c.offer_over.ensures.grown k way (served way at))
          c.offer_over.ensures.served;
    }

pub returns-clause-served : goal.returns-clause-served
returns-clause-served c =
    let P = λ (k : ℕ). (way : Way) → IsServedOn c.args.on c.loop-current.queue k way in
    let come = subst (λ o. HasCome c.args.on.graph.now c.args.node o P) c.in_default.is c.loop-current.invariant.come in
    λ k way here at. come.passed k way at.residual.is_arc here tt way at
