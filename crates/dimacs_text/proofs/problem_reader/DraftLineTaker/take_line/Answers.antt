use Rattle.dimacs_text.proofs.ReadLemmas.{line_taken}
use Rattle.dimacs_text.proofs.problem_reader.DraftLineTaker.take_line.Goals as goal

pub returns : goal.returns
returns c = λ setting before held. line_taken c.take.result c.args.self.now c.take.new.self before c.args.line.now c.take.ensures held
