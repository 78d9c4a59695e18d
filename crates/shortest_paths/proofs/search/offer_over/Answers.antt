use Rattle.residual_graph.specs.declared.residual.Way.{Way}
use Rattle.residual_graph.specs.declared.residual.Way.TheVariants.{Backward, Forward}
use Rattle.shortest_paths.specs.Progress.{IsServedOn}
use Rattle.shortest_paths.proofs.StepLemmas.{HaveJoined-trans, from_head, from_tail, served_still}
use Rattle.shortest_paths.proofs.search.offer_over.Goals as goal
use Rattle.shortest_paths.proofs.search.offer_over.Goals.{After-offer-2}

by_way : (c : After-offer-2) (way : Way) → IsServedOn c.args.on c.offer-2.new.queue c.args.arc way
by_way c Forward at = served_still _ _ _ _ _ _ c.offer-2.ensures.grown c.args.arc Forward (from_tail (IsServedOn c.args.on c.offer.new.queue) c.args.arc c.offer.ensures.served at)
by_way c Backward at = from_head (IsServedOn c.args.on c.offer-2.new.queue) c.args.arc c.offer-2.ensures.served at

pub returns-clause-grown : goal.returns-clause-grown
returns-clause-grown c = HaveJoined-trans _ _ _ _ _ _ _ c.offer.ensures.grown c.offer-2.ensures.grown

pub returns-clause-served : goal.returns-clause-served
returns-clause-served c = by_way (goal.at.returns-clause-served c).After-offer-2
