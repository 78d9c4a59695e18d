use Rattle.run_laws.proofs.Stepping.{turns_alike}
use Rattle.run_laws.proofs.determined.steps_agree.Goals as goal

pub returns : goal.returns
returns c = turns_alike
