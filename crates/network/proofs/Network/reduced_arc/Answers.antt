use Rattle.std.proofs.Common.{rules}
use Rattle.network.proofs.Network.reduced_arc.Goals as goal

pub returns : goal.returns
returns c = search rules
