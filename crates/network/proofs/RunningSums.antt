-- A loop that adds up a number over the arcs with their flows: the sum fits its type, as each term is small and there are few of them.
use Rattle.std.proofs.Common.{◌≡◌, ◌⊎◌, inl, inr, ℕ, ◌+◌, ◌*◌, ◌^◌, ◌<◌, ◌≤◌, ℤ, ◌+ℤ◌, List, [], ◌∷◌, length, unsigned_abs, FitsSigned, to_z, of_z, ap, arith}
use Rattle.std.proofs.lemmas.Int.{ints, to_z-of_z, fits_signed_from_abs}
use Rattle.std.specs.List.{AllZip}
use mir.Syntax.{Width}
use mir.Val.{hbits}
use Rattle.dimacs_text.specs.declared.problem.ArcRow.{ArcRow}
use Rattle.network.specs.Flow.{flow_sum}
use Rattle.network.proofs.IntegerAlgebra.{linear}

pub abs-add : (a b : ℤ) → unsigned_abs (a +ℤ b) ≤ unsigned_abs a + unsigned_abs b
abs-add a b = omega (arith, ints)

-- the total and the sum of what is still to come are the whole, and there is room for that
pub record IsSumSoFar (f : ArcRow → ℤ → ℤ) (most : ℕ) (whole : ℤ) (count : ℕ) (total : ℤ) (arcs : List ArcRow) (flow : List ℤ) : Type 0 where
  pub sum : total +ℤ flow_sum f arcs flow ≡ whole
  pub size : unsigned_abs total + most * length arcs ≤ most * count
  pub terms : AllZip (λ arc x. unsigned_abs (f arc x) ≤ most) arcs flow

module _ (w : Width) (f : ArcRow → ℤ → ℤ) (most : ℕ) (whole : ℤ) (count : ℕ) (total term : ℤ) (arcs arcs' : List ArcRow) (flow flow' : List ℤ) (arc : ArcRow) (x : ℤ) where
  pub sum_step : IsSumSoFar f most whole count total arcs flow → arcs ≡ arc ∷ arcs' → flow ≡ x ∷ flow' → term ≡ f arc x → most * count < 2 ^ hbits w
      → FitsSigned w (total +ℤ to_z w (of_z w term)) × IsSumSoFar f most whole count (to_z w (of_z w (total +ℤ to_z w (of_z w term)))) arcs' flow'
  sum_step s e h t fits =
      let terms : (unsigned_abs (f arc x) ≤ most) × AllZip (λ arc x. unsigned_abs (f arc x) ≤ most) arcs' flow' = rw (e, h) at s.terms in
      let small : unsigned_abs term ≤ most = rw t terms.0 in
      let long = ap (λ (l : List ArcRow). most * length l) e in
      let size = s.size in
      let more = abs-add total term in
      let sum : total +ℤ (f arc x +ℤ flow_sum f arcs' flow') ≡ whole = rw (e, h) at s.sum in
      let term_fits = fits_signed_from_abs w term (omega arith) in
      let sum_fits = fits_signed_from_abs w (total +ℤ term) (omega arith) in
      rw (to_z-of_z w term term_fits) (sum_fits, rw (to_z-of_z w (total +ℤ term) sum_fits) (record { sum = omega (arith, linear); size = omega arith; terms = terms.1 }))

pub sum_ends : (f : ArcRow → ℤ → ℤ) (most : ℕ) (whole : ℤ) (count : ℕ) (total : ℤ) (arcs : List ArcRow) (flow : List ℤ) → IsSumSoFar f most whole count total arcs flow → (length arcs ≡ 0) ⊎ (length flow ≡ 0) → total ≡ whole
sum_ends f most whole count total [] flow s e = let sum = s.sum in omega (arith, linear)
sum_ends f most whole count total (arc ∷ arcs) [] s e = absurd s.terms
sum_ends f most whole count total (arc ∷ arcs) (x ∷ flow) s (inl e) = absurd (omega arith)
sum_ends f most whole count total (arc ∷ arcs) (x ∷ flow) s (inr e) = absurd (omega arith)
