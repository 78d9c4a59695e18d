use Rattle.std.proofs.Common.{rules}
use Rattle.answer_text.proofs.answer_fault.AnswerFault.number.Goals as goal

pub returns-in-Line : goal.returns-in-Line
returns-in-Line c = search rules
