use Rattle.run_laws.proofs.Running.{sessions_alike}
use Rattle.run_laws.proofs.determined.same_texts_give_the_same_bytes.Goals as goal

pub returns : goal.returns
returns c = sessions_alike
