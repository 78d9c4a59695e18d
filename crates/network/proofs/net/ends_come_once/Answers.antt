use Rattle.network.proofs.EndWalk.{walk_of_ends}
use Rattle.network.proofs.net.ends_come_once.Goals as goal

pub returns : goal.returns
returns c = walk_of_ends
