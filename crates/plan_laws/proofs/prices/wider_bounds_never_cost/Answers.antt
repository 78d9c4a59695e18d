use Rattle.plan_laws.proofs.PriceLemmas.{best_within_wider}
use Rattle.plan_laws.proofs.prices.wider_bounds_never_cost.Goals as goal

pub returns : goal.returns
returns c = best_within_wider
