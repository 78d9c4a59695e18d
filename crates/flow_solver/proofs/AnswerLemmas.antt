-- What the end of all searches tells of the instance.
use Rattle.std.proofs.Common.{◌≡◌, ℕ, All, ◌++◌, replicate, zero, suc, ◌+◌, ◌-◌, ◌*◌, ◌<◌, ◌≤◌, ℤ, pos, neg_ℤ, ◌≤ℤ◌, ◌-ℤ◌, List, [], ◌∷◌, length, drop, None, refl, sym, ap, subst, ◌∙◌, inl, inr, arith, Bool, true, false, cond}
use Rattle.std.specs.Int.{w64}
use Rattle.std.proofs.lemmas.Int.{ints, int_wrap_fits, fits_signed_from_abs}
use Rattle.std.proofs.lemmas.Bool.{cases_lt, false≢true, false_from_ne_true}
use Rattle.std.proofs.lemmas.Grind.{get_or_after_one}
use Rattle.std.proofs.lemmas.List.Sums.{sum_by-cons}
use Rattle.dimacs_text.specs.declared.problem.ArcRow.{ArcRow}
use Rattle.network.specs.Flow.{AllEndsAreNodes, AllWithinBounds, IsCertifiedFlow, arcs_sum, cap_into, cap_out, crosses, low_into, low_out, net, nodes_sum, outside, supply_of, surplus_of, total_cost, IsLeastGreatestSurplus, IsLeastGreatestShortfall}
use Rattle.network.specs.Instance.{Demand, Terminals, Instance, IsLawful, IsLegal, ArcFits, IsCertified, IsBreach, at_node, is_marked, reduced, return_arc_of, reduced_arcs, reduced_flow, numbered_flow, worth}
use Rattle.std.proofs.lemmas.List.Elements.{All-from_recursion}
use Rattle.std.specs.List.{AllByRecursion}
use Rattle.dimacs_text.specs.Lawful.{IsLawfulRow}
use Rattle.network.proofs.Circulation.{zero_bounds, zero_net}
use Rattle.network.proofs.Reduction.{made, rows_of, reduced_ends, certified_is_best, breach_rules_out, from_reduced}
use Rattle.flow_solver.specs.declared.verdict.Verdict.{Verdict}
use Rattle.flow_solver.specs.declared.verdict.Verdict.TheVariants.{Best, Infeasible}
use Rattle.flow_changes.specs.Limits.{supply_limit}
use Rattle.predecessors.specs.Limits.{label_floor}
use Rattle.residual_graph.specs.Residual.{IsPseudoflow, IsReducedCostOptimal, ArePotentials, number_at, row_at}
use Rattle.flow_changes.specs.Push.{AreSmall, IsExcess, part_above_0, left, cap_total}
use Rattle.cuts.specs.Cut.{lack, IsParted, IsShownBy, IsSideOfCut}
use Rattle.cuts.proofs.CutLemmas.{lack-none, none_above}
use Rattle.residual_graph.specs.declared.side.Side.TheVariants.{Ahead, Behind}
use Rattle.tracked.specs.Marks.{in_set}
use Rattle.augmentation.specs.Nodes.{held}
use Rattle.flow_solver.specs.Answer.{IsBestMoment, IsInfeasibleMoment, IsVerdict, IsChosenBreach, IsChosenCut, IsJudged, reduced_worth, IsAnswered}
use Rattle.flow_solver.specs.Balance.{IsWrappedExcess}
use Rattle.flow_solver.specs.TablesView.{IsFlowValue}
use Rattle.flow_solver.specs.Moment.{Moment, IsReturnVerdict, ReturnMatches, ReturnMatchesBy, VerdictFits, returned, with_return}
use Rattle.flow_solver.proofs.BalanceLemmas.{IsExactExcess, excess_exact}
use Rattle.residual_graph.proofs.Pseudoflows.{bounds_of}
use Rattle.flow_solver.proofs.ExcessLemmas.{below_part, caps_of_instance, supply_of_instance}
use Rattle.flow_solver.proofs.FlowLaws.{certified_of, node_entry}
use Rattle.flow_solver.proofs.ChosenCut.{cut_least, cut_value, value_most}
use Rattle.flow_solver.proofs.PushLaws.{amount_is, legal_flow}

none_marked : (set : List Bool) → ((v : ℕ) → in_set set v ≡ false) → (v : ℕ) → is_marked (drop 1 set) v ≡ false
none_marked set none v = get_or_after_one set (v - 1) false ∙ none (1 + (v - 1))

-- ---- the worth

worth_is : (n : ℕ) (D : Demand) (arcs : List ArcRow) (room : ℕ) (y : List ℤ) → y ≡ reduced_flow (made n D arcs room) (numbered_flow D y) → reduced_worth D (reduced_arcs D arcs) y ≡ worth (made n D arcs room) (numbered_flow D y)
worth_is n (Terminals source sink) arcs room y same = ap (λ (z : List ℤ). number_at z 0) same
worth_is n _ arcs room y same = refl

-- without a return arc it is the cost
pub worth_is_cost : (D : Demand) (arcs : List ArcRow) (y : List ℤ) → return_arc_of D ≡ None → reduced_worth D arcs y ≡ total_cost arcs y
worth_is_cost (Terminals source sink) arcs y none = cc
worth_is_cost _ arcs y none = refl

-- ---- the excess

-- an exact excess that is small is what it wraps to
pub wrapped_small : (arcs : List ArcRow) (supply : ℕ → ℤ) (x e : List ℤ) → IsExcess arcs supply x e → AreSmall e → IsWrappedExcess arcs supply x e
wrapped_small arcs supply x e is small v =
    let z = supply v -ℤ net arcs x v in
    is v ∙ sym (int_wrap_fits w64 z (fits_signed_from_abs w64 z (omega (arith, ints, is v, small.low v, small.high v))))

-- the wrapped excess of a certified flow is exact
pub exact_of_certified : (I : Instance) (rows : List ArcRow) (x e : List ℤ) (q : ℕ → ℤ) → IsLawful I → rows ≡ (reduced I).arcs → IsCertifiedFlow (reduced I) x q → IsWrappedExcess rows (held I.nodes (reduced I).supply) x e → IsExactExcess rows (held I.nodes (reduced I).supply) x e
exact_of_certified I rows x e q lawful same certified is = excess_exact I rows x e lawful same (rw same certified.bounds) is

-- ---- a flow in which no node in excess reaches one in deficit

-- flow y leaves the excess e, no node in excess reaches one in deficit, and the set is the side of its cut
pub record IsParting (I : Instance) (y e : List ℤ) (set : List Bool) : Type 0 where
  pub lawful : IsLawful I
  pub excess_in : length e ≡ I.nodes + 1
  pub size : ℕ
  pub flow : IsPseudoflow size (reduced I).arcs y
  pub excess_is : IsExcess (reduced I).arcs (held I.nodes (reduced I).supply) y e
  pub side : IsSideOfCut (reduced I).arcs y e set
  pub parted : IsParted (reduced I).arcs y e

module _ (I : Instance) (y e : List ℤ) (set : List Bool) (end : IsParting I y e set) where
  bounds : AllWithinBounds (reduced I).arcs y
  bounds = bounds_of end.flow

  marks : (v : ℕ) → (1 ≤ v) × (v ≤ I.nodes) → is_marked (drop 1 set) v ≡ in_set set v
  marks v node = node_entry set v false node.0

  ends : AllEndsAreNodes (reduced I)
  ends = reduced_ends I end.lawful

  cut_of_excess : 0 < left e → IsLeastGreatestSurplus (reduced I) (is_marked (drop 1 set)) (pos (left e))
  cut_of_excess some =
      let on = end.side.in_excess some in
      let all = amount_is Ahead (reduced I) y e ends end.excess_is (omega (arith, end.excess_in)) in
      let none : (v : ℕ) → in_set set v ≡ true → pos 0 ≤ℤ number_at e v = λ v h. end.parted.no_deficit v (on.least end.parted.set end.parted.closed end.parted.holds v h) in
      record {
        value = cut_value Ahead (reduced I) y e set (is_marked (drop 1 set)) ends bounds end.excess_is marks on none ∙ sym all;
        greatest = λ other. (let most = value_most Ahead (reduced I) y other ends bounds in omega (arith, ints, most, all));
        least = λ other full. cut_least Ahead (reduced I) y e set (is_marked (drop 1 set)) ends bounds end.excess_is marks on none other (full ∙ all);
      }

  cut_of_deficit : left e ≡ 0 → 0 < lack e → IsLeastGreatestShortfall (reduced I) (is_marked (drop 1 set)) (pos (lack e))
  cut_of_deficit nothing some =
      let on = end.side.no_excess nothing in
      let all = amount_is Behind (reduced I) y e ends end.excess_is (omega (arith, end.excess_in)) in
      let none : (v : ℕ) → in_set set v ≡ true → pos 0 ≤ℤ neg_ℤ (number_at e v) = λ v h. omega (arith, ints, none_above e nothing v) in
      record {
        value = cut_value Behind (reduced I) y e set (is_marked (drop 1 set)) ends bounds end.excess_is marks on none ∙ sym all;
        greatest = λ other. (let most = value_most Behind (reduced I) y other ends bounds in omega (arith, ints, most, all));
        least = λ other full. cut_least Behind (reduced I) y e set (is_marked (drop 1 set)) ends bounds end.excess_is marks on none other (full ∙ all);
      }

  -- where nothing is out of balance, no node is marked
  none_in_cut : left e ≡ 0 → lack e ≡ 0 → (v : ℕ) → in_set set v ≡ false
  none_in_cut none no_lack v =
      false_from_ne_true (in_set set v) (λ h. false≢true ((end.side.no_excess none).least [] (λ k way residual near. absurd (false≢true near)) (λ q low. absurd (omega (arith, ints, low, lack-none e no_lack q))) v h))

  infeasible : (d : ℤ) → IsBreach I (is_marked (drop 1 set)) d → IsInfeasibleMoment I (is_marked (drop 1 set)) d
  infeasible d breach = record { none_legal = breach_rules_out I (is_marked (drop 1 set)) d end.lawful breach; breach = breach }

  pub excess_verdict : 0 < left e → IsInfeasibleMoment I (is_marked (drop 1 set)) (pos (left e))
  excess_verdict some = infeasible (pos (left e)) (record { positive = omega (arith, ints, some); value = inl (sym (cut_of_excess some).value) })

  pub deficit_verdict : left e ≡ 0 → 0 < lack e → IsInfeasibleMoment I (is_marked (drop 1 set)) (pos (lack e))
  deficit_verdict none some = infeasible (pos (lack e)) (record { positive = omega (arith, ints, some); value = inr (sym (cut_of_deficit none some).value) })

  -- no set has a surplus where nothing lies in excess
  surplus_none : left e ≡ 0 → (other : ℕ → Bool) → surplus_of (reduced I) other ≤ℤ pos 0
  surplus_none none other =
      let all = amount_is Ahead (reduced I) y e ends end.excess_is (omega (arith, end.excess_in)) in
      let most = value_most Ahead (reduced I) y other ends bounds in
      omega (arith, ints, all, most, none)

  pub excess_chosen : 0 < left e → IsChosenBreach (reduced I) (is_marked (drop 1 set)) (pos (left e))
  excess_chosen some = record {
    surplus = λ other above. cut_of_excess some;
    shortfall = λ none. absurd (omega (arith, ints, some, none (is_marked (drop 1 set)), (cut_of_excess some).value));
  }

  pub deficit_chosen : left e ≡ 0 → 0 < lack e → IsChosenBreach (reduced I) (is_marked (drop 1 set)) (pos (lack e))
  deficit_chosen none some = record {
    surplus = λ other above. absurd (omega (arith, ints, above, surplus_none none other));
    shortfall = λ all. cut_of_deficit none some;
  }

-- ---- the shortage fits its type

supply_within : (n : ℕ) (set : ℕ → Bool) (f : ℕ → ℤ) → ((v : ℕ) → (1 ≤ v) × (v ≤ n) → (neg_ℤ (pos supply_limit) ≤ℤ f v) × (f v ≤ℤ pos supply_limit))
    → (neg_ℤ (pos (supply_limit * n)) ≤ℤ nodes_sum n (λ v. cond (set v) (f v) (pos 0))) × (nodes_sum n (λ v. cond (set v) (f v) (pos 0)) ≤ℤ pos (supply_limit * n))
supply_within zero set f small = (omega (arith, ints), omega (arith, ints))
supply_within (suc n) set f small =
    let rest = supply_within n set f (λ v node. small v (node.0, omega (arith, node.1))) in
    let last = small (suc n) (omega arith, omega arith) in
    (grind (arith, ints), grind (arith, ints))

abbrev AreRows : List ArcRow → Type 0
AreRows arcs = (k : ℕ) → k < length arcs → (pos 0 ≤ℤ (row_at arcs k).low) × ((row_at arcs k).low ≤ℤ (row_at arcs k).cap)

part_between : (b : Bool) (z c : ℤ) → pos 0 ≤ℤ z → z ≤ℤ c → (pos 0 ≤ℤ cond b c (pos 0)) × (cond b z (pos 0) ≤ℤ pos (part_above_0 c))
part_between b z c low high = (let most = below_part c in (grind (arith, ints), grind (arith, ints)))

-- of the arcs that a test picks, the capacities come to at least 0, and the lower bounds to no more than all capacities
picked_between : (picks : ArcRow → Bool) (arcs : List ArcRow) → AreRows arcs → (pos 0 ≤ℤ arcs_sum (λ a. cond (picks a) a.cap (pos 0)) arcs) × (arcs_sum (λ a. cond (picks a) a.low (pos 0)) arcs ≤ℤ pos (cap_total arcs))
picked_between picks [] rows = (omega (arith, ints), omega (arith, ints))
picked_between picks (a ∷ arcs) rows =
    let rest = picked_between picks arcs (λ k lt. rows (suc k) (omega arith)) in
    let here = part_between (picks a) a.low a.cap (rows 0 (omega arith)).0 (rows 0 (omega arith)).1 in
    (omega (arith, ints, rest.0, here.0), omega (arith, ints, rest.1, here.1, sum_by-cons (λ (b : ArcRow). part_above_0 b.cap) a arcs))

module _ (I : Instance) (y e : List ℤ) (set : List Bool) (end : IsParting I y e set) where
  abbrev cut : ℕ → Bool
  cut = is_marked (drop 1 set)

  rows_end : AreRows (reduced I).arcs
  rows_end k lt = (let row = end.flow.rows k lt in (row.low_at_least_0, row.low_at_most_cap))

  supply_in : (neg_ℤ (pos (supply_limit * I.nodes)) ≤ℤ supply_of (reduced I) cut) × (supply_of (reduced I) cut ≤ℤ pos (supply_limit * I.nodes))
  supply_in = supply_within I.nodes cut (reduced I).supply (supply_of_instance I end.lawful)

  most_out : (pos 0 ≤ℤ cap_out (reduced I) cut) × (low_out (reduced I) cut ≤ℤ pos (cap_total (reduced I).arcs))
  most_out = picked_between (crosses cut (outside cut)) (reduced I).arcs rows_end

  most_into : (pos 0 ≤ℤ cap_into (reduced I) cut) × (low_into (reduced I) cut ≤ℤ pos (cap_total (reduced I).arcs))
  most_into = picked_between (crosses (outside cut) cut) (reduced I).arcs rows_end

  pub excess_fits : left e < 9223372036854775808
  excess_fits = elim (cases_lt 0 (left e)) [
    | inl some ↦ omega (arith, ints, (cut_of_excess I y e set end some).value, supply_in.1, most_out.0, most_into.1, caps_of_instance I end.lawful, end.lawful.nodes.1)
    | inr le ↦ omega arith
  ]

  pub deficit_fits : left e ≡ 0 → lack e < 9223372036854775808
  deficit_fits none = elim (cases_lt 0 (lack e)) [
    | inl some ↦ omega (arith, ints, (cut_of_deficit I y e set end none some).value, supply_in.0, most_out.1, most_into.0, caps_of_instance I end.lawful, end.lawful.nodes.1)
    | inr le ↦ omega arith
  ]

-- ---- a flow to which pushes lead shows the cut

module _ (I : Instance) (x e : List ℤ) (shortage : ℕ) (set : List Bool) (lawful : IsLawful I) (sized : length e ≡ I.nodes + 1)
    (is : IsExcess (reduced I).arcs (held I.nodes (reduced I).supply) x e) (shown : IsShownBy (reduced I).arcs x e shortage set) where
  shown_parting : IsParting I shown.flow shown.excess set
  shown_parting = record {
    lawful = lawful;
    excess_in = shown.sized ∙ sized;
    size = length e;
    flow = shown.within;
    excess_is = shown.pushes.excess (held I.nodes (reduced I).supply) is;
    side = shown.cut.side;
    parted = shown.cut.parted;
  }

  by_left : (P : ℕ → Type 0) → (0 < left shown.excess → P (left shown.excess)) → (left shown.excess ≡ 0 → 0 < lack shown.excess → P (lack shown.excess)) → P shortage
  by_left P excess deficit = elim (cases_lt 0 (left shown.excess)) [
    | inl some ↦ subst P (sym (shown.cut.in_excess some)) (excess some)
    | inr le ↦ (let none : left shown.excess ≡ 0 = omega arith in subst P (sym (shown.cut.no_excess none)) (deficit none (omega (arith, shown.cut.some, shown.cut.no_excess none))))
  ]

  pub shown_verdict : IsInfeasibleMoment I (is_marked (drop 1 set)) (pos shortage)
  shown_verdict = by_left (λ (d : ℕ). IsInfeasibleMoment I (is_marked (drop 1 set)) (pos d)) (excess_verdict I shown.flow shown.excess set shown_parting) (deficit_verdict I shown.flow shown.excess set shown_parting)

  pub shown_chosen : IsChosenBreach (reduced I) (is_marked (drop 1 set)) (pos shortage)
  shown_chosen = by_left (λ (d : ℕ). IsChosenBreach (reduced I) (is_marked (drop 1 set)) (pos d)) (excess_chosen I shown.flow shown.excess set shown_parting) (deficit_chosen I shown.flow shown.excess set shown_parting)

  pub shown_fits : shortage < 9223372036854775808
  shown_fits = by_left (λ (d : ℕ). d < 9223372036854775808) (λ some. excess_fits I shown.flow shown.excess set shown_parting) (λ none some. deficit_fits I shown.flow shown.excess set shown_parting none)

-- ---- the end of all searches

-- what stands in the tables when no search finds a node in deficit any more
pub record IsEnd (I : Instance) (y p e : List ℤ) (set : List Bool) : Type 0 where
  pub lawful : IsLawful I
  pub potentials_in : ArePotentials (length p) label_floor p
  pub excess_in : length e ≡ I.nodes + 1
  pub cut_in : length set ≡ I.nodes + 1
  pub certified : IsReducedCostOptimal (reduced I).arcs y p
  pub excess_is : IsExcess (reduced I).arcs (held I.nodes (reduced I).supply) y e
  pub side : IsSideOfCut (reduced I).arcs y e set
  pub parted : IsParted (reduced I).arcs y e

module _ (I : Instance) (y p e : List ℤ) (set : List Bool) (end : IsEnd I y p e set) where
  parting : IsParting I y e set
  parting = record {
    lawful = end.lawful;
    excess_in = end.excess_in;
    size = length p;
    flow = end.certified.flow;
    excess_is = end.excess_is;
    side = end.side;
    parted = end.parted;
  }

  pub end_certified : IsCertifiedFlow (reduced I) y (at_node (drop 1 p))
  end_certified = certified_of I y p end.lawful end.certified end.potentials_in

  best_verdict : left e ≡ 0 → lack e ≡ 0 → IsBestMoment I y (is_marked (drop 1 set)) (reduced_worth I.demand (reduced I).arcs y)
  best_verdict none no_lack =
      let legal = from_reduced I y end.lawful (legal_flow (reduced I) y e end.excess_is (bounds I y e set parting) none no_lack) in
      let certified : IsCertified I (numbered_flow I.demand y) (at_node (drop 1 p)) = subst (λ (z : List ℤ). IsCertifiedFlow (reduced I) z (at_node (drop 1 p))) legal.1 end_certified in
      record {
        reduced_is = legal.1;
        best = certified_is_best I (numbered_flow I.demand y) (at_node (drop 1 p)) end.lawful legal.0 certified;
        worth_is = worth_is I.nodes I.demand I.arcs I.room y legal.1;
        none_marked = none_marked set (none_in_cut I y e set parting none no_lack);
      }

  module _ (verdict : Verdict) (judged : IsJudged (reduced_worth I.demand (reduced I).arcs y) e verdict) where
    by_sums : (P : Verdict → Type 0) → (0 < left e → P (Infeasible (pos (left e)))) → (left e ≡ 0 → 0 < lack e → P (Infeasible (pos (lack e)))) → (left e ≡ 0 → lack e ≡ 0 → P (Best (reduced_worth I.demand (reduced I).arcs y))) → P verdict
    by_sums P excess deficit neither = elim (cases_lt 0 (left e)) [
      | inl some ↦ subst P (sym (judged.in_excess some)) (excess some)
      | inr le ↦ (let none : left e ≡ 0 = omega arith in elim (cases_lt 0 (lack e)) [
        | inl some ↦ subst P (sym (judged.in_deficit none some)) (deficit none some)
        | inr le2 ↦ (let no_lack : lack e ≡ 0 = omega arith in subst P (sym (judged.in_neither none no_lack)) (neither none no_lack))
      ])
    ]

    pub end_verdict : IsVerdict verdict I y (is_marked (drop 1 set))
    end_verdict = by_sums (λ (v : Verdict). IsVerdict v I y (is_marked (drop 1 set))) (excess_verdict I y e set parting) (deficit_verdict I y e set parting) best_verdict

    pub end_chosen : IsChosenCut verdict (reduced I) (is_marked (drop 1 set))
    end_chosen = by_sums (λ (v : Verdict). IsChosenCut v (reduced I) (is_marked (drop 1 set))) (excess_chosen I y e set parting) (deficit_chosen I y e set parting) (λ none no_lack. tt)

  pub left_fits : left e < 9223372036854775808
  left_fits = excess_fits I y e set parting

  pub lack_fits : left e ≡ 0 → lack e < 9223372036854775808
  lack_fits = deficit_fits I y e set parting

-- ---- what an answered moment tells of its flows

zero_flow : (n source sink : ℕ) (arcs : List ArcRow) (room : ℕ) → IsLawful (made n (Terminals source sink) arcs room) → IsLegal (made n (Terminals source sink) arcs room) (replicate (length arcs) (pos 0))
zero_flow n source sink arcs room lawful = (zero_bounds n source sink arcs (rows_of lawful), λ v b s t. zero_net arcs v)

tells_by : (n : ℕ) (D : Demand) (arcs : List ArcRow) (room : ℕ) (verdict : Verdict) (flow : List ℤ) (set : ℕ → Bool) → IsLawful (made n D arcs room) → IsVerdict verdict (made n D arcs room) flow set → ReturnMatchesBy D verdict flow
tells_by n (Terminals source sink) arcs room (Best w) flow set lawful told = ap Best (told.worth_is ∙ sym (ap (λ (x : List ℤ). number_at x 0) told.reduced_is))
tells_by n (Terminals source sink) arcs room (Infeasible d) flow set lawful told = absurd (told.none_legal (replicate (length arcs) (pos 0)) (zero_flow n source sink arcs room lawful))
tells_by n _ arcs room verdict flow set lawful told = tt

fits_by : (D : Demand) (arcs : List ArcRow) (verdict : Verdict) (flow : List ℤ) → AllWithinBounds (reduced_arcs D arcs) flow → ReturnMatchesBy D verdict flow → VerdictFits D verdict
fits_by (Terminals source sink) arcs verdict [] within told = absurd within
fits_by (Terminals source sink) arcs verdict (x ∷ flow) within told = subst IsReturnVerdict (sym told) within.0
fits_by _ arcs verdict flow within told = tt

same_by : (D : Demand) (arcs : List ArcRow) (verdict : Verdict) (flow : List ℤ) → AllWithinBounds (reduced_arcs D arcs) flow → ReturnMatchesBy D verdict flow → with_return D verdict flow ≡ flow
same_by (Terminals source sink) arcs verdict [] within told = absurd within
same_by (Terminals source sink) arcs verdict (x ∷ flow) within told = ap (λ (v : Verdict). returned (Terminals source sink) v ++ flow) told
same_by _ arcs verdict flow within told = refl

numbered_bounds : (D : Demand) (arcs : List ArcRow) (flow : List ℤ) → AllWithinBounds (reduced_arcs D arcs) flow → AllWithinBounds arcs (numbered_flow D flow)
numbered_bounds (Terminals source sink) arcs [] within = absurd within
numbered_bounds (Terminals source sink) arcs (x ∷ flow) within = within.1
numbered_bounds _ arcs flow within = within

flows_by : (n : ℕ) (D : Demand) (arcs : List ArcRow) (flow : List ℤ) → AllByRecursion (λ arc. IsLawfulRow n arc × ArcFits D arc) arcs → AllWithinBounds arcs flow → AllByRecursion IsFlowValue flow
flows_by n D [] [] rows within = tt
flows_by n D (arc ∷ arcs) (x ∷ flow) rows within =
    let low = rows.0.0.low in
    let limit = rows.0.0.limit in
    let here = within.0 in
    ((omega (arith, ints, low, here.0), omega (arith, ints, limit, here.1)), flows_by n D arcs flow rows.1 within.1)
flows_by n D _ _ rows within = absurd within

module _ (m : Moment) (answered : IsAnswered m) where
  -- the flow of the return arc, where there is one, is told as the worth
  pub return_matches : ReturnMatches m
  return_matches = tells_by m.instance.nodes m.instance.demand m.instance.arcs m.instance.room m.verdict m.flow (is_marked m.cut) answered.sized.lawful answered.verdict

  -- what is told can be told of any moment of this kind
  pub verdict_fits : VerdictFits m.instance.demand m.verdict
  verdict_fits = fits_by m.instance.demand m.instance.arcs m.verdict m.flow answered.certified.bounds return_matches

  -- and telling it again leaves the flow
  pub flow_told : with_return m.instance.demand m.verdict m.flow ≡ m.flow
  flow_told = same_by m.instance.demand m.instance.arcs m.verdict m.flow answered.certified.bounds return_matches

  -- the flow of each arc is within the limits
  pub flows_within : All IsFlowValue (numbered_flow m.instance.demand m.flow)
  flows_within =
      All-from_recursion IsFlowValue (numbered_flow m.instance.demand m.flow)
      (flows_by m.instance.nodes m.instance.demand m.instance.arcs (numbered_flow m.instance.demand m.flow) (rows_of answered.sized.lawful)
      (numbered_bounds m.instance.demand m.instance.arcs m.flow answered.certified.bounds))
