-- Where potentials that are the greatest stay the greatest, though arcs and flows change.
use Rattle.std.proofs.Common.{◌≡◌, ℕ, zero, suc, ◌-◌, ◌<◌, ◌≤◌, ℤ, pos, ◌-ℤ◌, ◌+ℤ◌, ◌<ℤ◌, ◌≤ℤ◌, List, [], ◌∷◌, ◌++◌, length, Some, refl, ◌∙◌, ◌⊎◌, inl, inr, arith, Bool, cond, slice_index_or, slice_set}
use Rattle.std.specs.Prelude.{int_lt}
use Rattle.std.specs.List.{AllZip}
use Rattle.std.proofs.lemmas.Int.{ints, by_lt_z}
use Rattle.std.proofs.lemmas.Bool.{cases_eq}
use Rattle.std.proofs.lemmas.Grind.{common_steps}
use Rattle.std.proofs.lemmas.Option.{slice_get-get_or}
use Rattle.std.proofs.lemmas.Slice.Zip.{AllZip-long}
use Rattle.std.proofs.lemmas.List.{get_or_append_left, get_or-set_other, get_or-set_same, length-append, length-set}
use Rattle.dimacs_text.specs.declared.problem.ArcRow.{ArcRow}
use Rattle.dimacs_text.specs.Lawful.{IsLawfulRow}
use Rattle.network.specs.Flow.{MinCost, FollowsSign, IsWithinBounds, IsCertifiedFlow, IsGreatestPotential, IsPotential, reduced_cost}
use Rattle.network.specs.Edited.{with_last}
use Rattle.network.specs.Instance.{Instance, IsLawful, arc_at, reduced}
use Rattle.network.proofs.Places.{zip_at, zip_from}
use Rattle.residual_graph.specs.declared.graph.Graph.{Graph}
use Rattle.residual_graph.specs.Residual.{IsWithinRow, number_at, row_at}
use Rattle.augmentation.specs.ScratchView.{ScratchView}
use Rattle.flow_solver.specs.declared.balance.Balance.{Balance}
use Rattle.tracked.specs.Tracked.{TrackedView}
use Rattle.flow_solver.specs.declared.part.Before.{Before}
use Rattle.flow_solver.specs.Edit.{KeepsResidualArcs}
use Rattle.flow_solver.specs.TablesView.{flow_index}
use Rattle.flow_solver.specs.Potentials.{AreAsTold}
use Rattle.flow_solver.specs.declared.potentials.Potentials.{Potentials}
use Rattle.flow_solver.specs.Tables.{AreConsistent}
use Rattle.residual_graph.proofs.GraphLemmas.{with_row}
use Rattle.residual_graph.proofs.Pseudoflows.{bounds_at}
use Rattle.flow_solver.proofs.ChangeLemmas.{supplied, row_is, rows_changed, rows_more, rows_kept}
use Rattle.flow_solver.proofs.EditRows.{row_there}

-- ---- a step up, where other potentials lie higher

module _ (p q : ℕ → ℤ) where
  -- p, one higher where q is higher
  abbrev raised : ℕ → ℤ
  raised v = cond (int_lt (p v) (q v)) (p v +ℤ pos 1) (p v)

  raised_at : (v : ℕ) → ((p v <ℤ q v) × (raised v ≡ p v +ℤ pos 1)) ⊎ ((q v ≤ℤ p v) × (raised v ≡ p v))
  raised_at v = grind (arith, ints, common_steps)

  rises : (v : ℕ) → (p v ≤ℤ raised v) × (raised v ≤ℤ (p v +ℤ pos 1))
  rises v = (let at = raised_at v in (omega (arith, ints), omega (arith, ints)))

  -- where the one rises more than the other, q lies further above it
  further : (u v : ℕ) → (raised v -ℤ p v) <ℤ (raised u -ℤ p u) → (q v -ℤ p v) <ℤ (q u -ℤ p u)
  further u v more = omega (arith, ints, raised_at u, raised_at v)

  -- the rule of signs stays: over an arc that is not tight p leaves 1, and over a tight one q keeps the rule too
  raised_sign : (a : ArcRow) (x : ℤ) → FollowsSign p a x → (reduced_cost p a ≡ pos 0 → FollowsSign q a x) → FollowsSign raised a x
  raised_sign a x sign tight = record {
    dear = λ dear. by_lt_z (pos 0) (reduced_cost p a) sign.dear (λ not_dear.
        by_lt_z (reduced_cost p a) (pos 0)
        (λ cheap. absurd (omega (arith, ints, dear, cheap, (rises a.tail).1, (rises a.head).0)))
        (λ not_cheap. (tight (omega (arith, ints, not_dear, not_cheap))).dear
        (omega (arith, ints, not_dear, not_cheap, further a.tail a.head (omega (arith, ints, dear, not_dear, not_cheap))))));
    cheap = λ cheap. by_lt_z (reduced_cost p a) (pos 0) sign.cheap (λ not_cheap.
        by_lt_z (pos 0) (reduced_cost p a)
        (λ dear. absurd (omega (arith, ints, dear, cheap, (rises a.tail).0, (rises a.head).1)))
        (λ not_dear. (tight (omega (arith, ints, not_dear, not_cheap))).cheap
        (omega (arith, ints, not_dear, not_cheap, further a.head a.tail (omega (arith, ints, cheap, not_dear, not_cheap))))));
  }

  raised_signs : (arcs : List ArcRow) (x : List ℤ) → AllZip (FollowsSign p) arcs x → ((k : ℕ) → k < length arcs → reduced_cost p (row_at arcs k) ≡ pos 0 → FollowsSign q (row_at arcs k) (number_at x k)) → AllZip (FollowsSign raised) arcs x
  raised_signs arcs x signs tight = zip_from (FollowsSign raised) _ (pos 0) arcs x (AllZip-long (FollowsSign p) arcs x signs) (λ k lt. raised_sign (row_at arcs k) (number_at x k) (zip_at (FollowsSign p) _ (pos 0) arcs x signs k lt) (tight k lt))

  raised_range : (v : ℕ) → IsPotential (p v) → IsPotential (q v) → IsPotential (raised v)
  raised_range v here there = (let at = raised_at v in (omega (arith, ints), omega (arith, ints)))

-- ---- the greatest potentials

-- potentials stay the greatest where whatever certifies the flow afterwards keeps the rule at each arc that was tight
greatest_still : (I J : MinCost) (x y : List ℤ) (p : ℕ → ℤ) → J.nodes ≡ I.nodes → IsCertifiedFlow I x p → IsGreatestPotential I x p
    → ((q : ℕ → ℤ) → IsCertifiedFlow J y q → (k : ℕ) → k < length I.arcs → reduced_cost p (row_at I.arcs k) ≡ pos 0 → FollowsSign q (row_at I.arcs k) (number_at x k))
    → IsGreatestPotential J y p
greatest_still I J x y p nodes certified greatest keeps = record {
  none_above = λ q other v node.
      (let below = greatest.none_above (raised p q) (record {
        bounds = certified.bounds;
        signs = raised_signs p q I.arcs x certified.signs (keeps q other);
        range = λ w at. raised_range p q w (certified.range w at) (other.range w (at.0, omega (arith, at.1, nodes)));
      }) v (node.0, omega (arith, node.1, nodes)) in
      omega (arith, ints, below, raised_at p q v));
}

-- ---- an arc that changes and keeps its residual arcs

-- a flow that is certified after an arc kept its residual arcs follows the rule of signs of the arc before
sign_kept : (q : ℕ → ℤ) (a b : ArcRow) (x y : ℤ) → b.tail ≡ a.tail → b.head ≡ a.head → KeepsResidualArcs a x b y → IsWithinRow a x → FollowsSign q b y → FollowsSign q a x
sign_kept q a b x y tail head kept within sign = record {
  dear = λ dear. by_lt_z (a.low) x
      (λ there_was. absurd (omega (arith, ints, kept.behind there_was, sign.dear (rw same dear))))
      (λ closed. omega (arith, ints, closed, within.low_kept));
  cheap = λ cheap. by_lt_z x (a.cap)
      (λ there_was. absurd (omega (arith, ints, kept.ahead there_was, sign.cheap (rw same cheap))))
      (λ closed. omega (arith, ints, closed, within.cap_kept));
}
  where
    same : reduced_cost q b ≡ reduced_cost q a
    same i = (kept.same_cost i +ℤ q (tail i)) -ℤ q (head i)

-- potentials that are the greatest are so still where an arc changed that was not tight, or kept its residual arcs
pub greatest_changed : (I : Instance) (k : ℕ) (row : ArcRow) (p : ℕ → ℤ) (x : List ℤ) (z : ℤ) → (1 ≤ k) × (k ≤ length I.arcs)
    → row.tail ≡ (slice_index_or I.arcs (k - 1) row).tail → row.head ≡ (slice_index_or I.arcs (k - 1) row).head
    → (reduced_cost p (row_at (reduced I).arcs (flow_index I.demand k)) ≡ pos 0 → KeepsResidualArcs (row_at (reduced I).arcs (flow_index I.demand k)) (number_at x (flow_index I.demand k)) row z)
    → IsCertifiedFlow (reduced I) x p → IsGreatestPotential (reduced I) x p → IsGreatestPotential (reduced (with_row I (k - 1) row)) (slice_set x (flow_index I.demand k) z) p
greatest_changed I k row p x z at tail head kept certified greatest =
    greatest_still (reduced I) (reduced (with_row I (k - 1) row)) x (slice_set x place z) p refl certified greatest keeps
  where
    place : ℕ
    place = flow_index I.demand k

    before : row_at (reduced I).arcs place ≡ slice_index_or I.arcs (k - 1) row
    before = row_is I k row at

    -- the rule of signs at each arc after the change
    after : (q : ℕ → ℤ) → IsCertifiedFlow (reduced (with_row I (k - 1) row)) (slice_set x place z) q → (j : ℕ) → j < length (reduced I).arcs → FollowsSign q (row_at (slice_set (reduced I).arcs place row) j) (number_at (slice_set x place z) j)
    after q other j lt = zip_at (FollowsSign q) _ (pos 0) (slice_set (reduced I).arcs place row) (slice_set x place z) (rw (rows_changed I k row at.0) other.signs) j (omega (arith, lt, length-set (reduced I).arcs place row))

    -- at the changed arc
    keeps_here : (q : ℕ → ℤ) → IsCertifiedFlow (reduced (with_row I (k - 1) row)) (slice_set x place z) q → place < length (reduced I).arcs → reduced_cost p (row_at (reduced I).arcs place) ≡ pos 0 → FollowsSign q (row_at (reduced I).arcs place) (number_at x place)
    keeps_here q other lt tight =
        let many = AllZip-long IsWithinBounds (reduced I).arcs x certified.bounds in
        let there = rw (get_or-set_same (reduced I).arcs place row _ lt, get_or-set_same x place z (pos 0) (omega (arith, lt, many))) at (after q other place lt) in
        sign_kept q (row_at (reduced I).arcs place) row (number_at x place) z (rw before tail) (rw before head) (kept tight) (bounds_at (reduced I).arcs x certified.bounds place lt) there

    keeps : (q : ℕ → ℤ) → IsCertifiedFlow (reduced (with_row I (k - 1) row)) (slice_set x place z) q → (j : ℕ) → j < length (reduced I).arcs → reduced_cost p (row_at (reduced I).arcs j) ≡ pos 0 → FollowsSign q (row_at (reduced I).arcs j) (number_at x j)
    keeps q other j lt tight = elim (cases_eq j place) [
      | inl here ↦ rw here (keeps_here q other (rw here at lt) (rw here at tight))
      | inr elsewhere ↦ rw (get_or-set_other (reduced I).arcs place j row _ elsewhere, get_or-set_other x place j z (pos 0) elsewhere) at (after q other j lt)
    ]

-- where an arc is more, whatever its flow
pub greatest_more : (I : Instance) (row : ArcRow) (p : ℕ → ℤ) (x : List ℤ) (z : ℤ) → IsCertifiedFlow (reduced I) x p → IsGreatestPotential (reduced I) x p → IsGreatestPotential (reduced (with_last I row)) (x ++ z ∷ []) p
greatest_more I row p x z certified greatest =
    greatest_still (reduced I) (reduced (with_last I row)) x (x ++ z ∷ []) p refl certified greatest keeps
  where
    keeps : (q : ℕ → ℤ) → IsCertifiedFlow (reduced (with_last I row)) (x ++ z ∷ []) q → (j : ℕ) → j < length (reduced I).arcs → reduced_cost p (row_at (reduced I).arcs j) ≡ pos 0 → FollowsSign q (row_at (reduced I).arcs j) (number_at x j)
    keeps q other j lt tight =
        let many = AllZip-long IsWithinBounds (reduced I).arcs x certified.bounds in
        let there : FollowsSign q (row_at ((reduced I).arcs ++ row ∷ []) j) (number_at (x ++ z ∷ []) j) = zip_at (FollowsSign q) _ (pos 0) ((reduced I).arcs ++ row ∷ []) (x ++ z ∷ []) (rw (rows_more I row) other.signs) j (omega (arith, lt, length-append (reduced I).arcs (row ∷ []))) in
        rw (get_or_append_left (reduced I).arcs (row ∷ []) _ j lt, get_or_append_left x (z ∷ []) (pos 0) j (omega (arith, lt, many))) at there

-- and where a supply changed, which certifying potentials do not see
pub greatest_supplied : (I : Instance) (v : ℕ) (value : ℤ) (p : ℕ → ℤ) (x : List ℤ) → IsGreatestPotential (reduced I) x p → IsGreatestPotential (reduced (supplied I v value)) x p
greatest_supplied I v value p x greatest = record {
  none_above = λ q other. greatest.none_above q (record { bounds = rw (rows_kept I v value) at other.bounds; signs = rw (rows_kept I v value) at other.signs; range = other.range });
}

-- ---- an arc of the instance

-- an arc with a number in range is there
pub arc_there : (arcs : List ArcRow) (k : ℕ) → (1 ≤ k) × (k ≤ length arcs) → (row : ArcRow) × (arc_at arcs k ≡ Some row)
arc_there arcs zero at = absurd (omega (arith, at.0))
arc_there arcs (suc i) at = (row_at arcs i, slice_get-get_or arcs i _ (omega (arith, at.1)))

module _ (I : Instance) (k : ℕ) (row : ArcRow) (at : (1 ≤ k) × (k ≤ length I.arcs)) (there : arc_at I.arcs k ≡ Some row) where
  -- it is lawful
  pub arc_lawful : IsLawful I → IsLawfulRow I.nodes row
  arc_lawful lawful = (rw (row_there I.arcs k row row there) at (lawful.arcs (k - 1) row (omega (arith, at.0, at.1)))).0

  -- and is the one at its place
  pub arc_placed : row_at (reduced I).arcs (flow_index I.demand k) ≡ row
  arc_placed = row_is I k row at ∙ row_there I.arcs k row row there

-- ---- the tables

-- the tables stay tables where nothing is told of the potentials, or what is true of them
pub tables_told : (g : Graph) (flow : TrackedView ℤ) (potentials : Potentials) (balance : Balance) (cut : TrackedView Bool) (scratch : ScratchView) (before : Before) (greatest : Bool) →
    AreConsistent g flow potentials balance cut scratch before → AreAsTold g.net flow.entries (record potentials { greatest = greatest }) →
    AreConsistent g flow (record potentials { greatest = greatest }) balance cut scratch before
tables_told g flow potentials balance cut scratch before greatest t told = record { fit = t.fit; balance_is = t.balance_is; told = told; held = t.held; step = t.step; log_fits = t.log_fits; before_is = t.before_is }
