use Rattle.std.proofs.Common.{rules}
use Rattle.checker.proofs.checking.is_right.Goals as goal

pub returns-in-Flow-clause-exact : goal.returns-in-Flow-clause-exact
returns-in-Flow-clause-exact c = search rules

pub returns-clause-exact : goal.returns-clause-exact
returns-clause-exact c = search rules

pub returns-clause-settles : goal.returns-clause-settles
returns-clause-settles c = search rules
