use Rattle.answer_laws.proofs.Checking.{shown_checks_valid}
use Rattle.answer_laws.proofs.solved.shown_answers_check_valid.Goals as goal

pub returns : goal.returns
returns c = shown_checks_valid
