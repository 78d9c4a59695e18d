use Rattle.runs.proofs.ReadLemmas.{answer_finished}
use Rattle.runs.proofs.read.AnswerReaderPieceReader.end_text.Goals as goal

pub returns : goal.returns
returns c = λ size text stands. answer_finished size.0 size.1 _ _ (c.finish.ensures.text size.0 size.1 text stands)
