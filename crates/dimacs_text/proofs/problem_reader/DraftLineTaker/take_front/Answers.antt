use Rattle.dimacs_text.proofs.ReadLemmas.{first_front, front_taken}
use Rattle.dimacs_text.proofs.problem_reader.DraftLineTaker.take_front.Goals as goal

pub returns-clause-front : goal.returns-clause-front
returns-clause-front c = first_front c.take_first.result c.args.text.now c.args.self.now c.take_first.new.self c.take_first.ensures

pub returns-clause-taken : goal.returns-clause-taken
returns-clause-taken c = λ setting before held. front_taken c.take_first.result c.args.self.now c.take_first.new.self before c.args.text.now c.take_first.ensures held
