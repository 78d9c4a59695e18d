use Rattle.std.proofs.Common.{rules}
use Rattle.c_calls.proofs.library.take_line.Goals as goal

pub returns-then-is_blank-clause-took : goal.returns-then-is_blank-clause-took
returns-then-is_blank-clause-took c = search rules
