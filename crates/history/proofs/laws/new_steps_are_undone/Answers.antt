use Rattle.history.proofs.Repeating.{new_step_undone, new_steps_undone}
use Rattle.history.proofs.laws.new_steps_are_undone.Goals as goal

pub returns : goal.returns
returns g c = record { once = new_step_undone; repeated = new_steps_undone }
