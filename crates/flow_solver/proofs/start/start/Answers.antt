use Rattle.std.proofs.Common.{rules}
use Rattle.flow_solver.proofs.start.start.Goals as goal

pub returns-then-row-lt0 : goal.returns-then-row-lt0
returns-then-row-lt0 c = search rules
