use Rattle.std.proofs.Common.{rules}
use Rattle.dimacs_io.proofs.stream.counted.Goals as goal

pub returns-in-Err-clause-counts : goal.returns-in-Err-clause-counts
returns-in-Err-clause-counts g c = search rules
