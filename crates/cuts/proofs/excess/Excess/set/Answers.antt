use Rattle.std.proofs.Common.{rules}
use Rattle.cuts.proofs.excess.Excess.set.Goals as goal

pub invariant_of-self : goal.invariant_of-self
invariant_of-self c = search rules
