use Rattle.std.proofs.Common.{rules}
use Rattle.mcf_c.proofs.mcf_undo.Goals as goal

pub returns-clause-goes : goal.returns-clause-goes
returns-clause-goes c = search rules
