use Rattle.std.proofs.Common.{rules}
use Rattle.mcf_c.proofs.mcf_solve.Goals as goal

pub returns-clause-solved : goal.returns-clause-solved
returns-clause-solved c = search rules
