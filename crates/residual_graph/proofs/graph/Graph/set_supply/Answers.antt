use Rattle.std.proofs.Common.{rules}
use Rattle.residual_graph.proofs.graph.Graph.set_supply.Goals as goal

pub returns-clause-net : goal.returns-clause-net
returns-clause-net c = search rules
