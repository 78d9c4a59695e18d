-- What the loops over the arcs and the nodes of a cut add up.
use Rattle.std.proofs.Common.{◌≡◌, ℕ, ◌+◌, ◌*◌, ◌^◌, ◌<◌, ◌≤◌, ℤ, pos, ◌+ℤ◌, ◌-ℤ◌, Bool, if◌then◌else◌, List, [], ◌∷◌, length, drop, slice_index_or, unsigned_abs, to_z, of_z, refl, add-one, arith}
use Rattle.std.proofs.lemmas.Int.{to_z-of_z, fits_signed_from_abs}
use Rattle.std.proofs.lemmas.List.{at_drop_more}
use mir.Syntax.{w64}
use Rattle.dimacs_text.specs.declared.problem.ArcRow.{ArcRow}
use Rattle.network.specs.declared.CutForm.{CutForm}
use Rattle.network.specs.declared.CutForm.TheVariants.{Surplus, Shortfall}
use Rattle.network.specs.Flow.{arcs_sum, nodes_sum, MinCost, crosses, outside, supply_of}
use Rattle.network.specs.Cut.{arc_part, cut_value}
use Rattle.network.proofs.IntegerAlgebra.{linear}
use Rattle.network.proofs.RunningSums.{abs-add}

-- one more term of a sum
pub added : (total term : ℤ) (m k : ℕ) → unsigned_abs total ≤ m * k → unsigned_abs term ≤ m → m * (k + 1) < 2 ^ 63
    → (to_z w64 (of_z w64 (total +ℤ to_z w64 (of_z w64 term))) ≡ total +ℤ term) × (unsigned_abs (total +ℤ term) ≤ m * (k + 1))
added total term m k size small fits =
    let more = abs-add total term in
    let term_fits = fits_signed_from_abs w64 term (omega arith) in
    let sum_fits = fits_signed_from_abs w64 (total +ℤ term) (omega arith) in
    rw (to_z-of_z w64 term term_fits) (to_z-of_z w64 (total +ℤ term) sum_fits, omega arith)

pub arcs_sum-step : (f : ArcRow → ℤ) (arcs : List ArcRow) (i : ℕ) (d : ArcRow) → i < length arcs → arcs_sum f (drop i arcs) ≡ f (slice_index_or arcs i d) +ℤ arcs_sum f (drop (i + 1) arcs)
arcs_sum-step f arcs i d h = at_drop_more (arcs_sum f) arcs i d h

pub nodes_sum-step : (f : ℕ → ℤ) (k : ℕ) → nodes_sum (k + 1) f ≡ nodes_sum k f +ℤ f (k + 1)
nodes_sum-step f k = rw (add-one k) refl

-- the value of a cut is its supply and what the arcs add, by their parts
abbrev pub value_by_parts : CutForm → MinCost → (ℕ → Bool) → ℤ
value_by_parts Surplus I set = supply_of I set +ℤ arcs_sum (arc_part Surplus set) I.arcs
value_by_parts Shortfall I set = arcs_sum (arc_part Shortfall set) I.arcs -ℤ supply_of I set

arcs_sum-sub : (f g : ArcRow → ℤ) (arcs : List ArcRow) → arcs_sum f arcs -ℤ arcs_sum g arcs ≡ arcs_sum (λ arc. f arc -ℤ g arc) arcs
arcs_sum-sub f g [] = refl
arcs_sum-sub f g (arc ∷ arcs) = let h = arcs_sum-sub f g arcs in omega (arith, linear)

pub cut_value_is : (form : CutForm) (I : MinCost) (set : ℕ → Bool) → cut_value form I set ≡ value_by_parts form I set
cut_value_is Surplus I set =
    let s = arcs_sum-sub (λ arc. if crosses (outside set) set arc then arc.low else pos 0) (λ arc. if crosses set (outside set) arc then arc.cap else pos 0) I.arcs in
    omega (arith, linear)
cut_value_is Shortfall I set =
    let s = arcs_sum-sub (λ arc. if crosses set (outside set) arc then arc.low else pos 0) (λ arc. if crosses (outside set) set arc then arc.cap else pos 0) I.arcs in
    omega (arith, linear)

pub surplus_from : (form : CutForm) (I : MinCost) (set : ℕ → Bool) (supply part : ℤ) → form ≡ Surplus → supply ≡ supply_of I set → part ≡ arcs_sum (arc_part form set) I.arcs → supply +ℤ part ≡ cut_value form I set
surplus_from Surplus I set supply part is s p = let v = cut_value_is Surplus I set in omega (arith, linear)
surplus_from Shortfall I set supply part is s p = absurd (cc)

pub shortfall_from : (form : CutForm) (I : MinCost) (set : ℕ → Bool) (supply part : ℤ) → form ≡ Shortfall → supply ≡ supply_of I set → part ≡ arcs_sum (arc_part form set) I.arcs → part -ℤ supply ≡ cut_value form I set
shortfall_from Surplus I set supply part is s p = absurd (cc)
shortfall_from Shortfall I set supply part is s p = let v = cut_value_is Shortfall I set in omega (arith, linear)
