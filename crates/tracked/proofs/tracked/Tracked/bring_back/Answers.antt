use Rattle.std.proofs.Common.{List, subst, sym}
use Rattle.tracked.specs.Touched.{NameChanges}
use Rattle.tracked.proofs.TrackedLemmas.{entries_differ}
use Rattle.tracked.proofs.tracked.Tracked.bring_back.Goals as goal

pub catch_up-requires-clause-named : goal.catch_up-requires-clause-named
catch_up-requires-clause-named g c =
    subst (λ (xs : List g.row.T.Denot). NameChanges 0 c.places.result.now xs c.deref.result.now) (sym c.deref_mut.ensures.value)
    (subst (λ (ys : List g.row.T.Denot). NameChanges 0 c.places.result.now c.self.inside.entries.items ys) (sym c.deref.ensures.value)
    (entries_differ _ _ _ _ _ _ c.self.invariant c.places.result.now c.places.ensures.listed))
