use Rattle.std.proofs.Common.{arith}
use Rattle.std.proofs.lemmas.Grind.{common_steps}
use Rattle.history.proofs.stack.History.push.Goals as goal

pub returns-clause-past : goal.returns-clause-past
returns-clause-past g c = grind (arith, common_steps)

pub returns-clause-future : goal.returns-clause-future
returns-clause-future g c = grind (arith, common_steps)

pub returns-clause-boards : goal.returns-clause-boards
returns-clause-boards g c = grind (arith, common_steps)

pub returns-clause-stands : goal.returns-clause-stands
returns-clause-stands g c = grind (arith, common_steps)
