use Rattle.std.proofs.Common.{arith, inl, inr}
use Rattle.std.proofs.lemmas.Bool.{cases_eq}
use Rattle.residual_graph.specs.Residual.{start_at}
use Rattle.shortest_paths.proofs.StepLemmas.{HaveJoined-refl, HaveJoined-trans, served_still}
use Rattle.shortest_paths.proofs.search.offer_from_all.Goals as goal

pub loop-v-init : goal.loop-v-init
loop-v-init c = record {
  grown = HaveJoined-refl _ _ _ _ _;
  served = λ k way none at. absurd (omega (arith, none));
}

pub loop-v-preserved : goal.loop-v-preserved
loop-v-preserved c = record {
  grown = HaveJoined-trans _ _ _ _ _ _ _ c.loop-v.invariant.grown c.offer_from.ensures.grown;
  served = λ k way lt at. elim (cases_eq (start_at c.args.on.graph.now.rows k way) c.loop-v.v) [
    | inl same ↦ c.offer_from.ensures.served k way same at
    | inr ne ↦ served_still _ _ _ _ _ _ c.offer_from.ensures.grown k way (c.loop-v.invariant.served k way (omega (arith, lt, ne)) at)
  ];
}

pub returns-clause-served : goal.returns-clause-served
returns-clause-served c = λ k way at. c.loop-v.invariant.served k way (omega (arith, at.from.0)) at
