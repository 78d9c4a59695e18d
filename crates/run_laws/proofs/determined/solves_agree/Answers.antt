use Rattle.run_laws.proofs.Running.{solves_alike, solves_same}
use Rattle.run_laws.proofs.determined.solves_agree.Goals as goal

pub returns : goal.returns
returns c = record { alike = solves_alike; same = solves_same }
