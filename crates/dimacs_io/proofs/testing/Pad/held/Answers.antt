use Rattle.std.proofs.Common.{rules}
use Rattle.dimacs_io.proofs.testing.Pad.held.Goals as goal

pub returns : goal.returns
returns c = search rules
