use Rattle.std.proofs.Common.{rules}
use Rattle.dimacs_io.proofs.stream.WriteSink.new.Goals as goal

pub returns-clause-failures : goal.returns-clause-failures
returns-clause-failures g c = search rules
