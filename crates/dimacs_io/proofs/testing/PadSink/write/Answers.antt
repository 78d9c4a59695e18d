use Rattle.std.proofs.Common.{rules}
use Rattle.dimacs_io.proofs.testing.PadSink.write.Goals as goal

pub returns-clause-count : goal.returns-clause-count
returns-clause-count c = search rules
