use Rattle.std.proofs.Common.{rules}
use Rattle.flow_solver.proofs.tables.Tables.log_edit.Goals as goal

pub returns-clause-logged : goal.returns-clause-logged
returns-clause-logged c = search rules
