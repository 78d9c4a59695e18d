use Rattle.std.proofs.Common.{rules}
use Rattle.answer_text.proofs.answer_draft.AnswerDraft.close.Goals as goal

pub returns-clause-value : goal.returns-clause-value
returns-clause-value c = search rules
