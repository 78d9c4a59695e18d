use Rattle.engines.proofs.EndLemmas.{check, session, solve}
use Rattle.engines.proofs.claim.runs_end.Goals as goal

pub returns : goal.returns
returns c = record { solve = solve; session = session; check = check }
