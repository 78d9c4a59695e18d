use Rattle.std.proofs.Common.{rules}
use Rattle.dimacs_io.proofs.testing.Pad.new.Goals as goal

pub returns-clause-bytes : goal.returns-clause-bytes
returns-clause-bytes c = search rules
