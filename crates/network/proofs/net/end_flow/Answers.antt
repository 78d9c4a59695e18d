use Rattle.std.proofs.Common.{rules}
use Rattle.network.proofs.net.end_flow.Goals as goal

pub returns-else-end-eq0 : goal.returns-else-end-eq0
returns-else-end-eq0 c = search rules
