use Rattle.std.proofs.Common.{rules}
use Rattle.mcf_c.proofs.mcf_command.Goals as goal

pub returns : goal.returns
returns c = search rules
