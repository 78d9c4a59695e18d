use Rattle.std.proofs.Common.{rules}
use Rattle.answer_text.specs.Answer.{read_flow}
use Rattle.answer_text.proofs.answer_draft.AnswerDraft.read_flow.Goals as goal

pub returns-in_err-tail : goal.returns-in_err-tail
unfolding read_flow
returns-in_err-tail c = search rules

pub returns-in_err-tail-2 : goal.returns-in_err-tail-2
unfolding read_flow
returns-in_err-tail-2 c = search rules

pub returns-in_err-head : goal.returns-in_err-head
unfolding read_flow
returns-in_err-head c = search rules

pub returns-in_err-flow : goal.returns-in_err-flow
unfolding read_flow
returns-in_err-flow c = search rules
