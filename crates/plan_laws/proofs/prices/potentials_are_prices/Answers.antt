use Rattle.plan_laws.proofs.PriceLemmas.{prices_bound, shipment_bound, answers_bound}
use Rattle.plan_laws.proofs.prices.potentials_are_prices.Goals as goal

pub returns : goal.returns
returns c = record { supplies = prices_bound; shipment = shipment_bound; answers = answers_bound }
