use Rattle.runs.proofs.ReadLemmas.{problem_finished}
use Rattle.runs.proofs.read.ProblemReaderPieceReader.end_text.Goals as goal

pub returns : goal.returns
returns c = λ setting text stands. problem_finished _ _ (c.finish.ensures.text text stands)
