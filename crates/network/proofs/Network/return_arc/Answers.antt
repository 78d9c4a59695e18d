use Rattle.std.proofs.Common.{rules}
use Rattle.network.proofs.Network.return_arc.Goals as goal

pub returns-in-GreatestFlow-clause-arc : goal.returns-in-GreatestFlow-clause-arc
returns-in-GreatestFlow-clause-arc c = search rules
