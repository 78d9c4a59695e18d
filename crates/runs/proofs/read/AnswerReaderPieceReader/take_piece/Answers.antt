use Rattle.runs.proofs.ReadLemmas.{piece_taken}
use Rattle.runs.proofs.read.AnswerReaderPieceReader.take_piece.Goals as goal

pub returns : goal.returns
returns c = λ size text stands. piece_taken _ _ _ _ _ (c.feed.ensures.text size.0 size.1 text stands)
