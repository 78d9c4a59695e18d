use Rattle.std.proofs.Common.{rules}
use Rattle.answer_text.specs.Answer.{read_shortage}
use Rattle.answer_text.proofs.answer_draft.AnswerDraft.read_shortage.Goals as goal

pub returns-in_err-number_in : goal.returns-in_err-number_in
unfolding read_shortage
returns-in_err-number_in c = search rules
