use Rattle.std.proofs.Common.{rules}
use Rattle.flow_solver.proofs.edit.nearest.Goals as goal

pub returns-then-flow-row-2 : goal.returns-then-flow-row-2
returns-then-flow-row-2 c = search rules

pub returns-else-flow-row-2 : goal.returns-else-flow-row-2
returns-else-flow-row-2 c = search rules
