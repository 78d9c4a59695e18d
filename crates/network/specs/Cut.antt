-- The values of a cut, by its two forms.
use Rattle.std.specs.Prelude.{ℕ, ℤ, pos, ◌-ℤ◌, Bool, List, if◌then◌else◌}
use Rattle.dimacs_text.specs.declared.problem.ArcRow.{ArcRow}
use Rattle.network.specs.declared.CutForm.{CutForm}
use Rattle.network.specs.declared.CutForm.TheVariants.{Surplus, Shortfall}
use Rattle.network.specs.Flow.{MinCost, arcs_sum, crosses, outside, surplus_of, shortfall_of}

-- what an arc adds to the value
abbrev pub arc_part : CutForm → (ℕ → Bool) → ArcRow → ℤ
arc_part Surplus set arc = (if crosses (outside set) set arc then arc.low else pos 0) -ℤ (if crosses set (outside set) arc then arc.cap else pos 0)
arc_part Shortfall set arc = (if crosses set (outside set) arc then arc.low else pos 0) -ℤ (if crosses (outside set) set arc then arc.cap else pos 0)

-- what the arcs add to it
abbrev pub arcs_part : CutForm → (ℕ → Bool) → List ArcRow → ℤ
arcs_part form set arcs = arcs_sum (arc_part form set) arcs

-- what a node adds to the supply of a set
abbrev pub supply_in : MinCost → (ℕ → Bool) → ℕ → ℤ
supply_in I set v = if set v then I.supply v else pos 0

abbrev pub cut_value : CutForm → MinCost → (ℕ → Bool) → ℤ
cut_value Surplus I set = surplus_of I set
cut_value Shortfall I set = shortfall_of I set
