use Rattle.plan_laws.proofs.StabilityLemmas.{moves_within, plans_move, plan_moves}
use Rattle.plan_laws.proofs.stability.edits_move_little.Goals as goal

pub returns : goal.returns
returns c = record { flows = moves_within; plans = plans_move; one = plan_moves }
