use Rattle.std.proofs.Common.{rules}
use Rattle.runs.proofs.end.End.status.Goals as goal

pub returns-in-Infeasible : goal.returns-in-Infeasible
returns-in-Infeasible c = search rules
