use Rattle.dimacs_text.proofs.TurnLemmas.{one_line_more}
use Rattle.dimacs_text.proofs.turns.turns_follow.Goals as goal

pub returns-clause-one_more : goal.returns-clause-one_more
returns-clause-one_more c = one_line_more
