-- The walk over the ends of a node, which adds up its net.
use Rattle.std.proofs.Common.{◌≡◌, ℕ, suc, ◌+◌, ◌-◌, ◌*◌, ◌/◌, ◌%◌, ◌<◌, ◌≤◌, ◌==◌, ℤ, pos, neg_ℤ, ◌+ℤ◌, Bool, true, false, if◌then◌else◌, List, [], ◌∷◌, length, slice_index_or, Option, Some, None, All, unsigned_abs, FitsSigned, to_z, of_z, ap, ◌∙◌, arith}
use Rattle.std.proofs.lemmas.Int.{ints, to_z-of_z, fits_signed_from_abs}
use Rattle.std.proofs.lemmas.List.{get_or_past}
use Rattle.std.specs.List.{AllByRecursion}
use Rattle.std.proofs.lemmas.Bool.{cases_lt}
use Rattle.std.proofs.Math.Logic.{⊎_elim}
use mir.Syntax.{w64}
use Rattle.dimacs_text.specs.declared.problem.ArcRow.{ArcRow}
use Rattle.dimacs_text.specs.declared.problem.TheConstants.{ARC_LIMIT, CAP_LIMIT}
use Rattle.dimacs_text.specs.Lawful.{IsLawfulRow}
use Rattle.network.specs.Flow.{net, AllWithinBounds}
use Rattle.network.specs.Instance.{Demand, ArcFits}
use Rattle.network.specs.Ends.{end_flow, last_end_below, AreEndLists}
use Rattle.network.proofs.EndLemmas.{rest_sum, IsEndAt, ends_left, walk_below, ends_sum-net}
use Rattle.network.proofs.IntegerAlgebra.{linear}
use Rattle.network.proofs.RunningSums.{abs-add}

-- flows within the bounds are small
pub flows_small : (n : ℕ) (D : Demand) (arcs : List ArcRow) (flow : List ℤ) → AllByRecursion (λ arc. IsLawfulRow n arc × ArcFits D arc) arcs → AllWithinBounds arcs flow → AllByRecursion (λ x. unsigned_abs x ≤ CAP_LIMIT) flow
flows_small n D [] [] rows bounds = tt
flows_small n D (arc ∷ arcs) (x ∷ flow) rows bounds =
    let low = rows.0.0.low in
    let cap = rows.0.0.limit in
    let here = bounds.0 in
    (omega (arith, ints), flows_small n D arcs flow rows.1 bounds.1)
flows_small n D _ _ rows bounds = absurd bounds

end_flow-small : (flow : List ℤ) (end : ℕ) → All (λ x. unsigned_abs x ≤ CAP_LIMIT) flow → unsigned_abs (end_flow flow end) ≤ CAP_LIMIT
end_flow-small flow end small = by ((end % 2) == 0)
  where
    at : unsigned_abs (slice_index_or flow (end / 2) (pos 0)) ≤ CAP_LIMIT
    at = ⊎_elim (λ inside. small (end / 2) (pos 0) inside) (λ past. rw (get_or_past flow (end / 2) (pos 0) past) (omega arith)) (cases_lt (end / 2) (length flow))

    by : (b : Bool) → unsigned_abs (if b then slice_index_or flow (end / 2) (pos 0) else neg_ℤ (slice_index_or flow (end / 2) (pos 0))) ≤ CAP_LIMIT
    by true = at
    by false = let a = at in omega (arith, ints)

pub record IsNetSoFar (arcs : List ArcRow) (flow : List ℤ) (v : ℕ) (sum : ℤ) (current : Option ℕ) : Type 0 where
  pub whole : sum +ℤ rest_sum arcs flow v current ≡ net arcs flow v
  pub size : unsigned_abs sum + CAP_LIMIT * ends_left current ≤ CAP_LIMIT * (2 * length arcs)
  pub end : IsEndAt arcs v current

module _ (nodes : ℕ) (arcs : List ArcRow) (first next : List (Option ℕ)) (lists : AreEndLists nodes arcs first next) (flow : List ℤ) (long : length arcs ≡ length flow) (v : ℕ) where
  pub walk_starts : 1 ≤ v → v ≤ nodes → (current : Option ℕ) → current ≡ slice_index_or first (v - 1) None → IsNetSoFar arcs flow v (pos 0) current
  walk_starts low high current is =
      let known : current ≡ last_end_below arcs v (2 * length arcs) =
      is ∙ lists.first_is v low high in
      let below = walk_below arcs flow v (2 * length arcs) (omega arith) in
      let all = ends_sum-net arcs flow v long in
      let same = below.0 in
      rw known (record { whole = omega (arith, linear); size = omega (arith, below.2); end = below.1 })

  module _ (few : length arcs ≤ ARC_LIMIT) (small : All (λ x. unsigned_abs x ≤ CAP_LIMIT) flow) (sum term : ℤ) (end : ℕ) where
    pub walk_step : (current : Option ℕ) → IsNetSoFar arcs flow v sum (Some end) → term ≡ end_flow flow end → current ≡ slice_index_or next end None
        → FitsSigned w64 (sum +ℤ to_z w64 (of_z w64 term)) × IsNetSoFar arcs flow v (to_z w64 (of_z w64 (sum +ℤ to_z w64 (of_z w64 term)))) current × (ends_left current < suc end)
    walk_step current so_far t is =
        let inside = so_far.end.0 in
        let known : current ≡ last_end_below arcs v end =
        is ∙ lists.next_is end inside ∙ ap (λ (u : ℕ). last_end_below arcs u end) so_far.end.1 in
        let below = walk_below arcs flow v end (omega arith) in
        let same = below.0 in
        let whole = so_far.whole in
        let size = so_far.size in
        let term_small : unsigned_abs term ≤ CAP_LIMIT = rw t (end_flow-small flow end small) in
        let more = abs-add sum term in
        let term_fits = fits_signed_from_abs w64 term (omega arith) in
        let sum_fits = fits_signed_from_abs w64 (sum +ℤ term) (omega arith) in
        let least = below.2 in
        rw (known, to_z-of_z w64 term term_fits) (sum_fits, rw (to_z-of_z w64 (sum +ℤ term) sum_fits) (record { whole = omega (arith, linear); size = omega arith; end = below.1 }), omega arith)

    pub walk_fits : IsNetSoFar arcs flow v sum (Some end) → term ≡ end_flow flow end → FitsSigned w64 (sum +ℤ to_z w64 (of_z w64 term))
    walk_fits so_far t =
        let size = so_far.size in
        let term_small : unsigned_abs term ≤ CAP_LIMIT = rw t (end_flow-small flow end small) in
        let more = abs-add sum term in
        let inside = so_far.end.0 in
        rw (to_z-of_z w64 term (fits_signed_from_abs w64 term (omega arith))) (fits_signed_from_abs w64 (sum +ℤ term) (omega arith))
