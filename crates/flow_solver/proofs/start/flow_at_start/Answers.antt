use Rattle.std.proofs.Common.{arith}
use Rattle.std.proofs.lemmas.Grind.{common_steps}
use Rattle.flow_solver.proofs.start.flow_at_start.Goals as goal

pub loop-row-preserved : goal.loop-row-preserved
loop-row-preserved c = grind (arith, common_steps)

pub returns-clause-flow : goal.returns-clause-flow
returns-clause-flow c = grind (arith, common_steps)
