use Rattle.run_laws.proofs.Nearing.{run_moves_little}
use Rattle.run_laws.proofs.near.runs_move_little.Goals as goal

pub returns : goal.returns
returns c = run_moves_little
