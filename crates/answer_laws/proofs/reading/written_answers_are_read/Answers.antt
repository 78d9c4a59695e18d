use Rattle.answer_laws.proofs.Read.{written_read}
use Rattle.answer_laws.proofs.ReadCut.{cut_read}
use Rattle.answer_laws.proofs.reading.written_answers_are_read.Goals as goal

pub returns : goal.returns
returns c = record { flow = written_read; cut = cut_read }
