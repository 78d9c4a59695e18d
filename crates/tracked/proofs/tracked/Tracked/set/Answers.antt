use Rattle.std.proofs.Common.{rules}
use Rattle.tracked.proofs.tracked.Tracked.set.Goals as goal

pub invariant_of-self : goal.invariant_of-self
invariant_of-self g c = search rules
