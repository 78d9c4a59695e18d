use Rattle.std.proofs.Common.{rules}
use Rattle.dimacs_io.proofs.stream.count_flush.Goals as goal

pub returns-then-is_ok : goal.returns-then-is_ok
returns-then-is_ok c = search rules
