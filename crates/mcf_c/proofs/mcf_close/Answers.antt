use Rattle.std.proofs.Common.{rules}
use Rattle.mcf_c.proofs.mcf_close.Goals as goal

pub returns : goal.returns
returns c = search rules
