use Rattle.answer_laws.proofs.Checking.{solved_checks_valid}
use Rattle.answer_laws.proofs.solved.solved_answers_check_valid.Goals as goal

pub returns : goal.returns
returns c = solved_checks_valid
