use Rattle.std.proofs.Common.{rules}
use Rattle.mcf.proofs.performing.perform_to_status.Goals as goal

pub returns-clause-told : goal.returns-clause-told
returns-clause-told g c = search rules
