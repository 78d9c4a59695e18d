use Rattle.history.proofs.Repeating.{step_redone, step_undone, steps_redone, steps_undone}
use Rattle.history.proofs.laws.undo_and_redo_are_inverse.Goals as goal

pub returns : goal.returns
returns g c = record { redo_after_undo = step_redone; undo_after_redo = step_undone; redos_after_undos = steps_redone; undos_after_redos = steps_undone }
