use Rattle.std.proofs.Common.{◌≡◌}
use Rattle.history.proofs.refused_growths.reserve_after_refusals.Given as goal

-- what could be undone and redone stays
abbrev pub invariant-loop-served : goal.invariant-loop-served
invariant-loop-served g l = (l.history.past ≡ l.initial.history.past) × (l.history.future ≡ l.initial.history.future)
