use Rattle.std.proofs.Common.{rules}
use Rattle.dimacs_io.proofs.stream.ReadSource.new.Goals as goal

pub returns-clause-bytes : goal.returns-clause-bytes
returns-clause-bytes g c = search rules

pub returns-clause-left : goal.returns-clause-left
returns-clause-left g c = search rules
