use Rattle.std.proofs.Common.{subst}
use Rattle.tracked.specs.Tracked.{NameAllChanges}
use Rattle.tracked.proofs.TrackedLemmas.{kept_differs, kept_named}
use Rattle.tracked.proofs.tracked.Tracked.places.Goals as goal

pub returns : goal.returns
returns g c = subst (NameAllChanges c.places.result.now) c.self.view_is (record {
  named = kept_named _ _ _ _ _ _ c.self.invariant c.places.result.now c.places.ensures.listed;
  all_named = kept_differs _ _ _ _ _ _ c.self.invariant c.places.result.now c.places.ensures.listed;
  as_many = c.self.invariant.same_length;
  apart = c.places.ensures.apart;
})
