use Rattle.engines.proofs.ClaimLemmas.{changes_nothing, judges, restores, serves, solves}
use Rattle.engines.proofs.claim.the_claim.Goals as goal

pub returns : goal.returns
returns c = record { solve = solves; session = serves; refused = changes_nothing; undone = restores; check = judges }
