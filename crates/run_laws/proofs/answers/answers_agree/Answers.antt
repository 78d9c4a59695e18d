use Rattle.run_laws.proofs.Agreeing.{same_verdict, same_cut, same_potentials}
use Rattle.run_laws.proofs.answers.answers_agree.Goals as goal

pub returns : goal.returns
returns c = record { verdict = same_verdict; cut = same_cut; potentials = same_potentials }
