use Rattle.cuts.proofs.cut.Cut.snapshot.Goals as goal

pub invariant_of-self : goal.invariant_of-self
invariant_of-self c = rw c.snapshot.ensures.entries c.self.invariant
