use Rattle.run_laws.proofs.Certifying.{certified_of_best}
use Rattle.run_laws.proofs.answers.certified_of_each_best.Goals as goal

pub returns : goal.returns
returns c = certified_of_best
