use Rattle.std.proofs.Common.{List, subst, sym}
use Rattle.tracked.specs.Touched.{NameChanges}
use Rattle.tracked.proofs.TrackedLemmas.{kept_differs}
use Rattle.tracked.proofs.tracked.Tracked.snapshot.Goals as goal

pub catch_up-requires-clause-named : goal.catch_up-requires-clause-named
catch_up-requires-clause-named g c =
    subst (λ (xs : List g.row.T.Denot). NameChanges 0 c.places.result.now xs c.deref.result.now) (sym c.deref_mut.ensures.value)
    (subst (λ (ys : List g.row.T.Denot). NameChanges 0 c.places.result.now c.self.inside.whole.items ys) (sym c.deref.ensures.value)
    (kept_differs _ _ _ _ _ _ c.self.invariant c.places.result.now c.places.ensures.listed))
