use Rattle.dimacs_lines.proofs.LineLemmas.{ended-stay}
use Rattle.dimacs_lines.proofs.cutter.ended_lines_stay.Goals as goal

pub returns : goal.returns
returns c = ended-stay
