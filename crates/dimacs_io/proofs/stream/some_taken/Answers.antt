use Rattle.std.proofs.Common.{rules}
use Rattle.dimacs_io.proofs.stream.some_taken.Goals as goal

pub returns-in_default-clause-told : goal.returns-in_default-clause-told
returns-in_default-clause-told c = search rules
