use Rattle.plan_laws.proofs.RunLemmas.{plans_run, run_moves}
use Rattle.plan_laws.proofs.stability.many_edits_move_little.Goals as goal

pub returns : goal.returns
returns c = record { flows = run_moves; plans = plans_run }
