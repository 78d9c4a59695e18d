use Rattle.runs.proofs.SourceLemmas.{is_read, reads_known}
use Rattle.runs.proofs.read.read_problem.Goals as goal

pub returns-clause-read : goal.returns-clause-read
returns-clause-read g c = let read = c.read_text.ensures.read in (read.0, read.1, read.2 tt c.new.ensures.text c.new.ensures.undecided)

pub returns-clause-known : goal.returns-clause-known
returns-clause-known g c = reads_known _ _ c.decided_for_all.ensures.always _ _ _ _ _ _ _ _ (returns-clause-read g c)

pub returns-clause-grows : goal.returns-clause-grows
returns-clause-grows g c = is_read _ _ c.decided_for_all.ensures.always _ _ _ _ _ _ _ _ (returns-clause-read g c)
