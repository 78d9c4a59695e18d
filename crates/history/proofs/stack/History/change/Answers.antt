use Rattle.std.proofs.Common.{arith}
use Rattle.std.proofs.lemmas.Grind.{elements}
use Rattle.history.proofs.stack.History.change.Goals as goal

pub returns : goal.returns
returns g c = grind (arith, elements)
