use Rattle.std.proofs.Common.{rules}
use Rattle.mcf.proofs.performing.tell.Goals as goal

pub returns-clause-status : goal.returns-clause-status
returns-clause-status g c = search rules

pub returns-clause-told : goal.returns-clause-told
returns-clause-told g c = (c.tell.result, c.tell.ensures.bytes, c.tell.ensures.failed)
