use Rattle.std.proofs.Common.{rules}
use Rattle.mcf_c.proofs.mcf_potentials.Goals as goal

pub returns-clause-status : goal.returns-clause-status
returns-clause-status c = search rules

pub returns-clause-certified : goal.returns-clause-certified
returns-clause-certified c = search rules

pub returns-clause-room : goal.returns-clause-room
returns-clause-room c = search rules

pub returns-clause-copied : goal.returns-clause-copied
returns-clause-copied c = search rules

pub returns-clause-greatest : goal.returns-clause-greatest
returns-clause-greatest c = search rules
