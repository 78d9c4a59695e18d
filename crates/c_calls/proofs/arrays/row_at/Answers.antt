use Rattle.std.proofs.Common.{rules}
use Rattle.c_calls.proofs.arrays.row_at.Goals as goal

pub returns : goal.returns
returns c = search rules
