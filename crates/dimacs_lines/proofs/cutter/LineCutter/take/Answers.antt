use Rattle.dimacs_lines.proofs.CutLemmas.{piece_cut}
use Rattle.dimacs_lines.proofs.cutter.LineCutter.take.Goals as goal

pub returns-clause-text : goal.returns-clause-text
returns-clause-text c = λ text holds. rw (c.cut.ensures.used, c.cut.ensures.complete, c.cut.ensures.cut) (piece_cut c.args.self.now text c.args.piece.now holds)
