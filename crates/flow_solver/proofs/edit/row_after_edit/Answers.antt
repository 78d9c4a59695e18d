use Rattle.std.proofs.Common.{rules}
use Rattle.flow_solver.proofs.edit.row_after_edit.Goals as goal

pub returns-in-Close : goal.returns-in-Close
returns-in-Close c = search rules
