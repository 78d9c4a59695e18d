use Rattle.dimacs_lines.proofs.DigitLemmas.{natural_below}
use Rattle.dimacs_lines.proofs.words.Word.natural.Goals as goal

pub returns-clause-below : goal.returns-clause-below
returns-clause-below c = rw c.self.invariant (natural_below c.self.inside.bytes.now)
