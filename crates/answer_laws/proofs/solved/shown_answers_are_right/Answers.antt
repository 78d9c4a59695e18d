use Rattle.answer_laws.proofs.Short.{shown_is_right}
use Rattle.answer_laws.proofs.solved.shown_answers_are_right.Goals as goal

pub returns : goal.returns
returns c = shown_is_right
