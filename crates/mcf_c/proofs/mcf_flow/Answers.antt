use Rattle.std.proofs.Common.{rules}
use Rattle.mcf_c.proofs.mcf_flow.Goals as goal

pub returns-clause-status : goal.returns-clause-status
returns-clause-status c = search rules

pub returns-clause-copied : goal.returns-clause-copied
returns-clause-copied c = search rules

pub returns-clause-best : goal.returns-clause-best
returns-clause-best c = search rules

pub returns-clause-room : goal.returns-clause-room
returns-clause-room c = search rules
