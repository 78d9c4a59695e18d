use Rattle.std.proofs.Common.{rules}
use Rattle.dimacs_io.proofs.testing.PadSink.flush.Goals as goal

pub returns-clause-fails : goal.returns-clause-fails
returns-clause-fails c = search rules
