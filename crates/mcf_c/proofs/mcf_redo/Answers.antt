use Rattle.std.proofs.Common.{rules}
use Rattle.mcf_c.proofs.mcf_redo.Goals as goal

pub returns-clause-goes : goal.returns-clause-goes
returns-clause-goes c = search rules
