use Rattle.std.proofs.Common.{rules}
use Rattle.dimacs_io.proofs.stream.buffered.BufferedSink.close.Goals as goal

pub returns-clause-waiting : goal.returns-clause-waiting
returns-clause-waiting g c = search rules
