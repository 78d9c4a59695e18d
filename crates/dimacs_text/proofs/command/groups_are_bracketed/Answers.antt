use Rattle.dimacs_text.proofs.BracketLemmas.{opens, ends}
use Rattle.dimacs_text.proofs.command.groups_are_bracketed.Goals as goal

pub returns-clause-opens : goal.returns-clause-opens
returns-clause-opens c = opens

pub returns-clause-ends : goal.returns-clause-ends
returns-clause-ends c = ends
