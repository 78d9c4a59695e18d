-- The nodes with a greatest potential below 0 are a minimum cut of a maximum flow.
use Rattle.std.proofs.Common.{◌≡◌, ◌≢◌, ℕ, ◌≤◌, ◌==◌, ℤ, pos, negsuc, int_lt, ◌-ℤ◌, ◌*ℤ◌, ◌≤ℤ◌, ◌<ℤ◌, Bool, true, false, not, ◌&&◌, if◌then◌else◌, List, [], ◌∷◌, refl, sym, ap, subst, ◌∙◌, arith, eqb-true, eq-eqb, true≢false}
use Rattle.std.proofs.lemmas.Int.{ints, by_lt_z}
use Rattle.std.specs.List.{AllZip, AllByRecursion}
use Rattle.dimacs_text.specs.declared.problem.ArcRow.{ArcRow}
use Rattle.dimacs_text.specs.Lawful.{IsLawfulRow}
use Rattle.network.specs.declared.TheConstants.{RETURN_CAP, LEAST_POTENTIAL}
use Rattle.network.specs.Flow.{nodes_sum, net, crosses, outside, MinCost, AllEndsAreNodes, AllWithinBounds, reduced_cost, FollowsSign, IsCertifiedFlow, IsGreatestPotential}
use Rattle.network.specs.Instance.{at_node, is_marked, numbered_flow, Demand, Supplies, Terminals, Sides, Instance, DemandFits, ArcFits, IsLawful, IsLegal, IsCertified, return_arc, reduced, reduced_flow, worth}
use Rattle.flow_solver.specs.declared.verdict.Verdict.{Verdict}
use Rattle.flow_solver.specs.declared.verdict.Verdict.TheVariants.{Best, Infeasible}
use Rattle.flow_solver.specs.Answer.{IsAnswered, IsVerdict}
use Rattle.flow_solver.specs.Moment.{Moment}
use Rattle.plan_laws.specs.MinimumCut.{IsSourceSide, capacity_of, below_zero, ShowsMinimumCut}
use Rattle.network.proofs.IntegerAlgebra.{linear}
use Rattle.network.proofs.Sums.{nodes_sum-same, nodes_sum-one}
use Rattle.network.proofs.Cuts.{flow_across, flow_across-within, nodes_sum-across, lows}
use Rattle.network.proofs.Reduction.{made, rows_of, reduced_ends}

-- ---- signs

negative_is : (z : ℤ) → int_lt z (pos 0) ≡ true → z <ℤ pos 0
negative_is z e = omega (arith, ints)

not_negative_is : (z : ℤ) → int_lt z (pos 0) ≡ false → pos 0 ≤ℤ z
not_negative_is z e = omega (arith, ints)

is_negative_of : (z : ℤ) → z <ℤ pos 0 → int_lt z (pos 0) ≡ true
is_negative_of z h = by (int_lt z (pos 0)) refl
  where
    by : (t : Bool) → int_lt z (pos 0) ≡ t → int_lt z (pos 0) ≡ true
    by true e = e
    by false e = absurd (omega (arith, ints))

-- z where it is below 0, and else 0
abbrev capped : ℤ → ℤ
capped (pos n) = pos 0
capped (negsuc n) = negsuc n

capped_is : (z : ℤ) → (z <ℤ pos 0 → capped z ≡ z) × (pos 0 ≤ℤ z → capped z ≡ pos 0)
capped_is (pos n) = (λ h. absurd (omega (arith, ints)), λ h. refl)
capped_is (negsuc n) = (λ h. refl, λ h. absurd (omega (arith, ints)))

-- it keeps the order, as far as it shows one
capped_lt : (a b : ℤ) → capped a <ℤ capped b → a <ℤ b
capped_lt a b h =
    by_lt_z a (pos 0)
    (λ low. let e = (capped_is a).0 low in
    by_lt_z b (pos 0) (λ low'. let e' = (capped_is b).0 low' in omega (arith, linear)) (λ high'. omega (arith, linear)))
    (λ high. let e = (capped_is a).1 high in
    by_lt_z b (pos 0) (λ low'. let e' = (capped_is b).0 low' in omega (arith, linear)) (λ high'. let e' = (capped_is b).1 high' in omega (arith, linear)))

capped_range : (low z : ℤ) → low ≤ℤ pos 0 → low ≤ℤ z → (low ≤ℤ capped z) × (capped z ≤ℤ pos 0)
capped_range low z h k =
    by_lt_z z (pos 0)
    (λ below. let e = (capped_is z).0 below in (omega (arith, linear), omega (arith, linear)))
    (λ above. let e = (capped_is z).1 above in (omega (arith, linear), omega (arith, linear)))

-- ---- what crosses a set

module _ (n source sink : ℕ) (arcs : List ArcRow) (fits : DemandFits n (Terminals source sink)) (rows : AllByRecursion (λ arc. IsLawfulRow n arc × ArcFits (Terminals source sink) arc) arcs) where
  abbrev of : MinCost
  of = record { nodes = n; supply = λ v. pos 0; arcs = arcs }

  no_lows : (from to : ℕ → Bool) (some : List ArcRow) → AllByRecursion (λ arc. IsLawfulRow n arc × ArcFits (Terminals source sink) arc) some → lows from to some ≡ pos 0
  no_lows from to [] fit = refl
  no_lows from to (arc ∷ some) fit =
      let rest = no_lows from to some fit.1 in
      let one : (b : Bool) → (if b then arc.low else pos 0) ≡ pos 0 = λ b. elim b as (λ b. (if b then arc.low else pos 0) ≡ pos 0) [ true ↦ fit.0.1.0 | false ↦ refl ] in
      let here = one (crosses from to arc) in
      omega (arith, linear)

  module _ (flow : List ℤ) (inner : (v : ℕ) → (1 ≤ v) × (v ≤ n) → v ≢ source → v ≢ sink → net arcs flow v ≡ pos 0) (ends : AllEndsAreNodes of) where
    -- of the nodes of a source side the source alone sends out
    alone_at : (set : ℕ → Bool) → IsSourceSide source sink set → (v : ℕ) → (1 ≤ v) × (v ≤ n) → (b c : Bool) → (source == v) ≡ b → set v ≡ c
        → (if c then net arcs flow v else pos 0) ≡ (if b then net arcs flow v else pos 0)
    alone_at set side v b true true e f = refl
    alone_at set side v b true false e f =
        let here : source ≡ v = eqb-true source v e in
        absurd (true≢false (sym side.source_in ∙ ap set here ∙ f))
    alone_at set side v b false false e f = refl
    alone_at set side v b false true e f =
        inner v b (λ is. true≢false (sym (eq-eqb source v (sym is)) ∙ e)) (λ is. true≢false (sym f ∙ ap set is ∙ side.sink_out))

    across_is : (set : ℕ → Bool) → IsSourceSide source sink set → flow_across set arcs flow ≡ net arcs flow source
    across_is set side =
        sym (nodes_sum-across of set flow ends)
        ∙ nodes_sum-same n _ _ (λ v b. alone_at set side v b (source == v) (set v) refl refl)
        ∙ nodes_sum-one n source (λ v. net arcs flow v) fits.0.0 fits.0.1

    -- no flow is above the capacity of a cut
    worth_below : (set : ℕ → Bool) → IsSourceSide source sink set → AllWithinBounds arcs flow → net arcs flow source ≤ℤ capacity_of arcs set
    worth_below set side within =
        let bound = (flow_across-within set arcs flow within).1 in
        let is = across_is set side in
        let none = no_lows (outside set) set arcs rows in
        omega (arith, linear)

  -- ---- the set of the potentials

  module _ (p : ℕ → ℤ) where
    -- an arc out of the set is full, and one into it empty
    filled : (arc : ArcRow) (x : ℤ) → ArcFits (Terminals source sink) arc → FollowsSign p arc x → (s t : Bool) → below_zero p arc.tail ≡ s → below_zero p arc.head ≡ t
        → ((if s then pos 1 else pos 0) -ℤ (if t then pos 1 else pos 0)) *ℤ x ≡ (if s && not t then arc.cap else pos 0)
    filled arc x fit sign true true e f = omega (arith, ints)
    filled arc x fit sign false false e f = omega (arith, ints)
    filled arc x fit sign true false e f =
        let free = fit.1 in
        let tail = negative_is (p arc.tail) e in
        let head = not_negative_is (p arc.head) f in
        let full = sign.cheap (omega (arith, linear)) in
        omega (arith, ints)
    filled arc x fit sign false true e f =
        let free = fit.1 in
        let none = fit.0 in
        let tail = not_negative_is (p arc.tail) e in
        let head = negative_is (p arc.head) f in
        let empty = sign.dear (omega (arith, linear)) in
        omega (arith, ints)

    all_filled : (some : List ArcRow) (flow : List ℤ) → AllByRecursion (λ arc. IsLawfulRow n arc × ArcFits (Terminals source sink) arc) some → AllZip (FollowsSign p) some flow
        → flow_across (below_zero p) some flow ≡ capacity_of some (below_zero p)
    all_filled [] flow fit signs = refl
    all_filled (arc ∷ some) [] fit signs = absurd signs
    all_filled (arc ∷ some) (x ∷ flow) fit signs =
        let here = filled arc x fit.0.1 signs.0 (below_zero p arc.tail) (below_zero p arc.head) refl refl in
        let rest = all_filled some flow fit.1 signs.1 in
        omega (arith, linear)

    -- ---- the greatest potential of the sink is 0

    abbrev raised : ℕ → ℤ
    raised v = capped (p v -ℤ p sink)

    raised_sign : (arc : ArcRow) (x : ℤ) → ArcFits (Terminals source sink) arc → FollowsSign p arc x → FollowsSign raised arc x
    raised_sign arc x fit sign =
        let free = fit.1 in
        record {
          dear = λ h. sign.dear (let lt = capped_lt (p arc.head -ℤ p sink) (p arc.tail -ℤ p sink) (omega (arith, linear)) in omega (arith, linear));
          cheap = λ h. sign.cheap (let lt = capped_lt (p arc.tail -ℤ p sink) (p arc.head -ℤ p sink) (omega (arith, linear)) in omega (arith, linear));
        }

    raised_signs : (some : List ArcRow) (flow : List ℤ) → AllByRecursion (λ arc. IsLawfulRow n arc × ArcFits (Terminals source sink) arc) some → AllZip (FollowsSign p) some flow
        → AllZip (FollowsSign raised) some flow
    raised_signs [] [] fit signs = signs
    raised_signs [] (x ∷ flow) fit signs = absurd signs
    raised_signs (arc ∷ some) [] fit signs = absurd signs
    raised_signs (arc ∷ some) (x ∷ flow) fit signs = (raised_sign arc x fit.0.1 signs.0, raised_signs some flow fit.1 signs.1)

    module _ (flow : List ℤ) (certified : IsCertifiedFlow (reduced (made n (Terminals source sink) arcs 0)) (net arcs flow source ∷ flow) p) (room : net arcs flow source <ℤ RETURN_CAP) where
      -- the return arc is not full, so that it is not cheap
      source_below : p source <ℤ p sink
      source_below =
          by_lt_z (reduced_cost p (return_arc source sink)) (pos 0)
          (λ cheap. let full = certified.signs.0.cheap cheap in absurd (omega (arith, linear)))
          (λ rest. omega (arith, linear))

      raised_return : FollowsSign raised (return_arc source sink) (net arcs flow source)
      raised_return =
          let below = source_below in
          let at_sink = (capped_is (p sink -ℤ p sink)).1 (omega (arith, linear)) in
          let at_source = (capped_is (p source -ℤ p sink)).0 (omega (arith, linear)) in
          let sign = certified.signs.0 in
          record { dear = λ h. sign.dear (omega (arith, linear)); cheap = λ h. sign.cheap (omega (arith, linear)) }

      raised_certified : IsCertifiedFlow (reduced (made n (Terminals source sink) arcs 0)) (net arcs flow source ∷ flow) raised
      raised_certified = record {
        bounds = certified.bounds;
        signs = (raised_return, raised_signs arcs flow rows certified.signs.1);
        range = λ v b.
            let here = certified.range v b in
            let there = certified.range sink fits.1 in
            capped_range LEAST_POTENTIAL (p v -ℤ p sink) (omega (arith, linear)) (omega (arith, here.0, there.1, linear));
      }

      sink_is_zero : IsGreatestPotential (reduced (made n (Terminals source sink) arcs 0)) (net arcs flow source ∷ flow) p → p sink ≡ pos 0
      sink_is_zero greatest =
          let le = greatest.none_above raised raised_certified sink fits.1 in
          let at_sink = (capped_is (p sink -ℤ p sink)).1 (omega (arith, linear)) in
          let top = (certified.range sink fits.1).1 in
          omega (arith, linear)

      below_is_side : IsGreatestPotential (reduced (made n (Terminals source sink) arcs 0)) (net arcs flow source ∷ flow) p → IsSourceSide source sink (below_zero p)
      below_is_side greatest =
          let zero = sink_is_zero greatest in
          let below = source_below in
          record { source_in = is_negative_of (p source) (omega (arith, linear)); sink_out = ap (λ (z : ℤ). int_lt z (pos 0)) zero }

shown_by : (n : ℕ) (D : Demand) (arcs : List ArcRow) (room : ℕ) (flow : List ℤ) (p : ℕ → ℤ) → IsLawful (made n D arcs room) → IsLegal (made n D arcs room) flow → IsCertified (made n D arcs room) flow p
    → IsGreatestPotential (reduced (made n D arcs room)) (reduced_flow (made n D arcs room) flow) p → worth (made n D arcs room) flow <ℤ RETURN_CAP → ShowsMinimumCut D (made n D arcs room) flow p
shown_by n (Supplies s) arcs room flow p lawful legal certified greatest few = tt
shown_by n (Sides marks) arcs room flow p lawful legal certified greatest few = tt
shown_by n (Terminals source sink) arcs room flow p lawful legal certified greatest few =
    let rows = rows_of lawful in
    let ends : AllEndsAreNodes (of n source sink arcs lawful.demand rows) = (reduced_ends (made n (Terminals source sink) arcs room) lawful).1 in
    let side = below_is_side n source sink arcs lawful.demand rows p flow certified few greatest in
    let is = across_is n source sink arcs lawful.demand rows flow legal.1 ends (below_zero p) side in
    let filled = all_filled n source sink arcs lawful.demand rows p arcs flow rows certified.signs.1 in
    let same : capacity_of arcs (below_zero p) ≡ net arcs flow source = sym filled ∙ is in (
      record { side = side; least = λ other also. rw same (worth_below n source sink arcs lawful.demand rows flow legal.1 ends other also legal.0) },
      same,
    )

pub shows_minimum_cut : (I : Instance) (flow : List ℤ) (p : ℕ → ℤ) → IsLawful I → IsLegal I flow → IsCertified I flow p → IsGreatestPotential (reduced I) (reduced_flow I flow) p
    → worth I flow <ℤ RETURN_CAP → ShowsMinimumCut I.demand I flow p
shows_minimum_cut I flow p lawful legal certified greatest few = shown_by I.nodes I.demand I.arcs I.room flow p lawful legal certified greatest few

-- a moment that answers a maximum flow problem by a plan, of a worth below that of a full return arc
pub moment_shows_minimum_cut : (m : Moment) (w : ℤ) → IsAnswered m → m.verdict ≡ Best w → w <ℤ RETURN_CAP → ShowsMinimumCut m.instance.demand m.instance (numbered_flow m.instance.demand m.flow) (at_node m.potentials)
moment_shows_minimum_cut m w answered best few = by m.verdict best answered.verdict
  where
    by : (v : Verdict) → v ≡ Best w → IsVerdict v m.instance m.flow (is_marked m.cut) → ShowsMinimumCut m.instance.demand m.instance (numbered_flow m.instance.demand m.flow) (at_node m.potentials)
    by (Best z) e is =
        let flow = numbered_flow m.instance.demand m.flow in
        let same : z ≡ w = cc in
        let p = at_node m.potentials in
        let certified : IsCertified m.instance flow p = subst (λ (x : List ℤ). IsCertifiedFlow (reduced m.instance) x p) is.reduced_is answered.certified in
        let greatest : IsGreatestPotential (reduced m.instance) (reduced_flow m.instance flow) p = subst (λ (x : List ℤ). IsGreatestPotential (reduced m.instance) x p) is.reduced_is answered.greatest in
        let below : worth m.instance flow <ℤ RETURN_CAP = subst (λ (z : ℤ). z <ℤ RETURN_CAP) (sym same ∙ is.worth_is) few in
        shows_minimum_cut m.instance flow p answered.sized.lawful is.best.legal certified greatest below
    by (Infeasible d) e is = absurd cc
