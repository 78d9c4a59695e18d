use Rattle.runs.proofs.ReadLemmas.{piece_taken}
use Rattle.runs.proofs.read.ProblemReaderPieceReader.take_piece.Goals as goal

pub returns : goal.returns
returns c = λ setting text stands. piece_taken _ _ _ _ _ (c.feed.ensures.text text stands)
