use Rattle.std.proofs.Common.{rules}
use Rattle.mcf_c.proofs.mcf_look.Goals as goal

pub returns-clause-shown : goal.returns-clause-shown
returns-clause-shown c = search rules
