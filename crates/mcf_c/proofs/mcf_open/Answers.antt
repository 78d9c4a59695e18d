use Rattle.std.proofs.Common.{rules}
use Rattle.mcf_c.proofs.mcf_open.Goals as goal

pub returns-in-Ok-new-clause-opened : goal.returns-in-Ok-new-clause-opened
returns-in-Ok-new-clause-opened c = search rules

pub returns-in-Ok-new-clause-open : goal.returns-in-Ok-new-clause-open
returns-in-Ok-new-clause-open c = search rules

pub returns-in-Err-new-clause-opened : goal.returns-in-Err-new-clause-opened
returns-in-Err-new-clause-opened c = search rules

pub returns-in-Err-new-clause-open : goal.returns-in-Err-new-clause-open
returns-in-Err-new-clause-open c = search rules
