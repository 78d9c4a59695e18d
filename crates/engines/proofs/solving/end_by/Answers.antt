use Rattle.std.proofs.Common.{rules}
use Rattle.engines.proofs.solving.end_by.Goals as goal

pub returns-in-Infeasible : goal.returns-in-Infeasible
returns-in-Infeasible c = search rules
