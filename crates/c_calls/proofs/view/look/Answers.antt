use Rattle.std.proofs.Common.{rules}
use Rattle.c_calls.proofs.view.look.Goals as goal

pub returns : goal.returns
returns c = search rules
