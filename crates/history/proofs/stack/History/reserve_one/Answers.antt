use Rattle.std.proofs.Common.{rules}
use Rattle.history.proofs.stack.History.reserve_one.Goals as goal

pub returns-clause-ok : goal.returns-clause-ok
returns-clause-ok g c = search rules
