-- The kind of problem stays, whatever step is taken.
use Rattle.std.proofs.Common.{◌≡◌, ℕ, ℤ, Bool, true, false, List, refl, ap, ◌∙◌}
use Rattle.std.specs.Bool.{OnTrue, OnFalse}
use Rattle.history.specs.Boards.{Changes, MovesBack}
use Rattle.network.specs.Instance.{Demand, Supplies, kind_of}
use Rattle.flow_solver.specs.Moment.{Moment}
use Rattle.session.specs.Parts.{named, demand_swapped}
use Rattle.session.specs.Record.{Recorded, with_record, record_turned}

-- other supplies are of the same kind
kind_swapped : (places : List (ℕ × ℤ)) (demand : Demand) → kind_of (demand_swapped places demand) ≡ kind_of demand
kind_swapped places (Supplies supplies) = refl
kind_swapped places _ = refl

-- a record leads to a moment of the same kind
kind_led : (r : Recorded) (m d : Moment) → d ≡ with_record r m → kind_of d.instance.demand ≡ kind_of m.instance.demand
kind_led r m d is = ap (λ (n : Moment). kind_of n.instance.demand) is ∙ kind_swapped (named r.parts).supplies m.instance.demand

pub kind_back : (moved : Bool) (old new : Changes Recorded) (m d : Moment) → OnTrue moved (MovesBack record_turned with_record old new m d) → OnFalse moved (d ≡ m)
    → kind_of d.instance.demand ≡ kind_of m.instance.demand
kind_back true old new m d (r, past, future, is_d) same = kind_led r m d is_d
kind_back false old new m d moves same = ap (λ (n : Moment). kind_of n.instance.demand) same
