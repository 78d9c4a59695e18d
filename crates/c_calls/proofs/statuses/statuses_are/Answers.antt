use Rattle.std.proofs.Common.{rules}
use Rattle.c_calls.proofs.statuses.statuses_are.Goals as goal

pub returns-clause-closed : goal.returns-clause-closed
returns-clause-closed c = search rules

pub returns-clause-open : goal.returns-clause-open
returns-clause-open c = search rules

pub returns-clause-other_length : goal.returns-clause-other_length
returns-clause-other_length c = search rules

pub returns-clause-not_there : goal.returns-clause-not_there
returns-clause-not_there c = search rules

pub returns-clause-fault : goal.returns-clause-fault
returns-clause-fault c = search rules

pub returns-clause-memory : goal.returns-clause-memory
returns-clause-memory c = search rules

pub returns-clause-too_short : goal.returns-clause-too_short
returns-clause-too_short c = search rules
