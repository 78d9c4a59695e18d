use Rattle.answer_text.proofs.AnswerLemmas.{line_taken}
use Rattle.answer_text.proofs.answer_reader.AnswerDraftLineTaker.take_line.Goals as goal

pub returns : goal.returns
returns c = λ size before held. line_taken c.take.result size.0 size.1 c.args.self.now c.take.new.self before c.args.line.now c.take.ensures held
