-- Parts in their normal form: what they name, exchanging twice is nothing, and what is left can be exchanged.
use Rattle.std.proofs.Common.{◌≡◌, ℕ, zero, suc, ◌+◌, ◌-◌, ◌<◌, ◌≤◌, ℤ, List, [], ◌∷◌, ◌++◌, length, get_or, refl, sym, ap, ap₂, ◌∙◌, arith, inl, inr, add-one, append-nil}
use Rattle.std.proofs.Math.ListN.{replicate}
use Rattle.std.specs.List.{All}
use Rattle.std.proofs.lemmas.List.{drop_all}
use Rattle.dimacs_text.specs.declared.problem.ArcRow.{ArcRow}
use Rattle.dimacs_text.specs.declared.problem.TheConstants.{SUPPLY_LIMIT}
use Rattle.dimacs_text.specs.Lawful.{IsWithin}
use Rattle.network.specs.Instance.{Demand, Supplies, Terminals, Sides, Instance, ArcFits, DemandFits, IsLawful}
use Rattle.flow_solver.specs.Moment.{Moment}
use Rattle.flow_solver.specs.TablesView.{IsFlowValue, IsRowOf, HasEnds, supplies_in}
use Rattle.flow_solver.specs.declared.part.Part.{Part}
use Rattle.flow_solver.specs.declared.part.Part.TheVariants.{Last}
use Rattle.session.specs.Places.{IsRising, AreWithin, PlacesFit, exchanged, taken, end_of, changed}
use Rattle.session.specs.PlacesLaws.{length-exchanged, exchanged_again, taken_again, fit_taken, length-taken, get_or-taken, All-exchanged}
use Rattle.session.specs.EndingLaws.{length-changed, taken_changed, end_of-changed, changed_again, length-end_of, All-changed, All-end_of}
use Rattle.session.specs.Parts.{Named, nothing_named, named, supply_parts, arc_parts, gone_parts, listed, flow_of, demand_swapped, instance_swapped, named_turned, IsOneEnd, NamedFit}

-- ---- the demand

arc_fits-swapped : (places : List (ℕ × ℤ)) (demand : Demand) (arc : ArcRow) → ArcFits demand arc → ArcFits (demand_swapped places demand) arc
arc_fits-swapped places (Supplies supplies) arc fits = fits
arc_fits-swapped places (Terminals source sink) arc fits = fits
arc_fits-swapped places (Sides marks) arc fits = fits

-- a row that the instance may have it may have with other supplies too
pub row_for : (I : Instance) (places : List (ℕ × ℤ)) (arcs : List ArcRow) (arc : ArcRow) → IsRowOf I arc → IsRowOf (record I { demand = demand_swapped places I.demand; arcs = arcs }) arc
row_for I places arcs arc is = (is.0, arc_fits-swapped places I.demand arc is.1)

pub demand_fits-swapped : (nodes : ℕ) (places : List (ℕ × ℤ)) (demand : Demand) → All (λ p. IsWithin SUPPLY_LIMIT p.1) places → DemandFits nodes demand → DemandFits nodes (demand_swapped places demand)
demand_fits-swapped nodes places (Supplies supplies) values fits =
    (length-exchanged places supplies ∙ fits.0, All-exchanged (IsWithin SUPPLY_LIMIT) places supplies values fits.1)
demand_fits-swapped nodes places (Terminals source sink) values fits = fits
demand_fits-swapped nodes places (Sides marks) values fits = fits

demand_again : (places : List (ℕ × ℤ)) (demand : Demand) (n : ℕ) → IsRising places → AreWithin n places → demand_swapped (taken places (supplies_in demand)) (demand_swapped places demand) ≡ demand
demand_again places (Supplies supplies) n rising within = ap Supplies (exchanged_again places supplies n rising within)
demand_again places (Terminals source sink) n rising within = refl
demand_again places (Sides marks) n rising within = refl

pub exchanged-none : {X : Type 0} (places : List (ℕ × X)) → exchanged places [] ≡ []
exchanged-none [] = refl
exchanged-none (p ∷ places) = exchanged-none places

pub supplies_in-swapped : (places : List (ℕ × ℤ)) (demand : Demand) → supplies_in (demand_swapped places demand) ≡ exchanged places (supplies_in demand)
supplies_in-swapped places (Supplies supplies) = refl
supplies_in-swapped places (Terminals source sink) = sym (exchanged-none places)
supplies_in-swapped places (Sides marks) = sym (exchanged-none places)

pub supplies_within : (nodes : ℕ) (demand : Demand) → DemandFits nodes demand → All (IsWithin SUPPLY_LIMIT) (supplies_in demand)
supplies_within nodes (Supplies supplies) fits = fits.1
supplies_within nodes (Terminals source sink) fits = λ k d below. absurd (omega arith)
supplies_within nodes (Sides marks) fits = λ k d below. absurd (omega arith)

-- ---- the list and what it names

named-supplies : (places : List (ℕ × ℤ)) (qs : List Part) → named (supply_parts places ++ qs) ≡ record (named qs) { supplies = places ++ (named qs).supplies }
named-supplies [] qs = refl
named-supplies (p ∷ places) qs = ap (λ (N : Named). record N { supplies = p ∷ N.supplies }) (named-supplies places qs)

named-arcs : (places : List (ℕ × ArcRow)) (qs : List Part) → named (arc_parts places ++ qs) ≡ record (named qs) { rows = places ++ (named qs).rows }
named-arcs [] qs = refl
named-arcs (p ∷ places) qs = ap (λ (N : Named). record N { rows = p ∷ N.rows }) (named-arcs places qs)

named-gone : (rows : List ArcRow) (flows : List ℤ) (qs : List Part) → length flows ≡ length rows → named (gone_parts rows flows ++ qs) ≡ record (named qs) { come_rows = rows ++ (named qs).come_rows; come_flows = flows ++ (named qs).come_flows }
named-gone [] [] qs same = refl
named-gone [] (flow ∷ flows) qs same = absurd (omega arith)
named-gone (row ∷ rows) [] qs same = absurd (omega arith)
named-gone (row ∷ rows) (flow ∷ flows) qs same =
    ap (λ (N : Named). record N { come_rows = row ∷ N.come_rows; come_flows = flow ∷ N.come_flows }) (named-gone rows flows qs (omega arith))

named-last : (n : ℕ) → named (replicate n Last) ≡ record nothing_named { go = n }
named-last zero = refl
named-last (suc n) = ap (λ (N : Named). record N { go = N.go + 1 }) (named-last n) ∙ ap (λ (k : ℕ). record nothing_named { go = k }) (add-one n)

-- the list names what it was made of
pub named-listed : (N : Named) → length N.come_flows ≡ length N.come_rows → named (listed N) ≡ N
named-listed N same =
    named-supplies N.supplies (arc_parts N.rows ++ (gone_parts N.come_rows N.come_flows ++ replicate N.go Last))
    ∙ ap (λ (M : Named). record M { supplies = N.supplies ++ M.supplies })
    (named-arcs N.rows (gone_parts N.come_rows N.come_flows ++ replicate N.go Last)
    ∙ ap (λ (M : Named). record M { rows = N.rows ++ M.rows })
    (named-gone N.come_rows N.come_flows (replicate N.go Last) same
    ∙ ap (λ (M : Named). record M { come_rows = N.come_rows ++ M.come_rows; come_flows = N.come_flows ++ M.come_flows }) (named-last N.go)))
    ∙ simp append-nil

pub named_is : (N M : Named) → N.supplies ≡ M.supplies → N.rows ≡ M.rows → N.come_rows ≡ M.come_rows → N.come_flows ≡ M.come_flows → N.go ≡ M.go → N ≡ M
named_is N M supplies rows come_rows come_flows go =
    ap₂ (λ (xs : List (ℕ × ℤ)) (ys : List (ℕ × ArcRow)). record N { supplies = xs; rows = ys }) supplies rows
    ∙ ap₂ (λ (xs : List ArcRow) (ys : List ℤ). record M { come_rows = xs; come_flows = ys; go = N.go }) come_rows come_flows
    ∙ ap (λ (n : ℕ). record M { go = n }) go

-- ---- twice is nothing

pub instance_is : (I J : Instance) → J.nodes ≡ I.nodes → J.room ≡ I.room → J.demand ≡ I.demand → J.arcs ≡ I.arcs → J ≡ I
instance_is I J same_nodes same_room same_demand same_arcs =
    ap (λ (n : ℕ). record J { nodes = n }) same_nodes
    ∙ ap (λ (n : ℕ). record J { nodes = I.nodes; room = n }) same_room
    ∙ ap (λ (d : Demand). record I { demand = d; arcs = J.arcs }) same_demand
    ∙ ap (λ (a : List ArcRow). record I { arcs = a }) same_arcs

-- where arcs go none come, and then arcs come and none go
one_end_again : (N : Named) (m : Moment) → IsOneEnd N → IsOneEnd (named_turned N m)
one_end_again N m (inl none) = inr (drop_all (length m.instance.arcs - N.go) m.instance.arcs (omega (arith, none)))
one_end_again N m (inr none) = inl (ap length none)

module _ (N : Named) (m : Moment) (fit : NamedFit N m.instance) where
  abbrev I : Instance
  I = m.instance

  pub instance_again : instance_swapped (named_turned N m) (instance_swapped N I) ≡ I
  instance_again =
      instance_is I (instance_swapped (named_turned N m) (instance_swapped N I)) refl refl
      (demand_again N.supplies I.demand (length (supplies_in I.demand)) fit.supplies.rising fit.supplies.within)
      (changed_again N.rows N.go N.come_rows I.arcs fit.go fit.rows.within fit.rows.rising)

  pub length-arcs : length (instance_swapped N I).arcs ≡ length I.arcs - N.go + length N.come_rows
  length-arcs = length-changed N.rows N.go N.come_rows I.arcs fit.go fit.rows.within

  pub lawful_again : IsLawful I → IsLawful (instance_swapped N I)
  lawful_again lawful =
      let arcs = All-changed (IsRowOf I) N.rows N.go N.come_rows I.arcs fit.rows.values fit.come_rows lawful.arcs in
      record {
        nodes = lawful.nodes;
        demand = demand_fits-swapped I.nodes N.supplies I.demand fit.supplies.values lawful.demand;
        arcs = λ i d below. row_for I N.supplies (instance_swapped N I).arcs _ (arcs i d below);
        count = omega (arith, length-arcs, fit.room);
        room = lawful.room;
      }

  supplies_again : taken (taken N.supplies (supplies_in I.demand)) (supplies_in (demand_swapped N.supplies I.demand)) ≡ N.supplies
  supplies_again =
      ap (taken (taken N.supplies (supplies_in I.demand))) (supplies_in-swapped N.supplies I.demand) ∙ taken_again N.supplies (supplies_in I.demand) fit.supplies.rising fit.supplies.within

  -- each row that is left has the ends of the row that came in its place
  ends_again : All (λ p. HasEnds (changed N.rows N.go N.come_rows I.arcs) p.0 p.1) (taken N.rows I.arcs)
  ends_again i d below =
      let arcs = changed N.rows N.go N.come_rows I.arcs in
      let inside : i < length N.rows = omega (arith, length-taken N.rows I.arcs) in
      let p : ℕ × ArcRow = get_or N.rows i d in
      let q : ℕ × ArcRow = get_or (taken N.rows I.arcs) i d in
      let q_is : q ≡ (p.0, get_or I.arcs (p.0 - 1) p.1) = get_or-taken N.rows I.arcs i d inside in
      let came : get_or arcs (q.0 - 1) q.1 ≡ p.1 =
      ap (λ (a : ℕ × ArcRow). a.1) (sym (get_or-taken (taken N.rows I.arcs) arcs i d below) ∙ ap (λ ps. get_or ps i d) (taken_changed N.rows N.go N.come_rows I.arcs fit.go fit.rows.within fit.rows.rising)) in
      let place : q.0 ≡ p.0 = ap (λ (a : ℕ × ArcRow). a.0) q_is in
      let old = fit.ends i d inside in
      let within = fit.rows.within i d inside in (
        omega (arith, place, within.0),
        omega (arith, place, within.1, fit.go, length-arcs),
        ap (λ (a : ℕ × ArcRow). a.1.tail) q_is ∙ sym old.2 ∙ ap (λ (r : ArcRow). r.tail) (sym came),
        ap (λ (a : ℕ × ArcRow). a.1.head) q_is ∙ sym old.3 ∙ ap (λ (r : ArcRow). r.head) (sym came),
      )

  module _ (one : length (flow_of m) ≡ length I.arcs) where
    pub go_flow : N.go ≤ length (flow_of m)
    go_flow = omega (arith, fit.go, one)

    pub turned_flows : length (named_turned N m).come_flows ≡ length (named_turned N m).come_rows
    turned_flows = length-end_of N.go (flow_of m) go_flow ∙ sym (length-end_of N.go I.arcs fit.go)

    -- the places are named again, where the flows that came are the last
    pub named_again : (now : Moment) → now.instance ≡ instance_swapped N I → end_of (length N.come_flows) (flow_of now) ≡ N.come_flows → named_turned (named_turned N m) now ≡ N
    named_again now is flows =
        named_is (named_turned (named_turned N m) now) N
        (ap (λ (J : Instance). taken (taken N.supplies (supplies_in I.demand)) (supplies_in J.demand)) is ∙ supplies_again)
        (ap (λ (J : Instance). taken (taken N.rows I.arcs) J.arcs) is ∙ taken_changed N.rows N.go N.come_rows I.arcs fit.go fit.rows.within fit.rows.rising)
        (ap (λ (J : Instance). end_of (length N.come_rows) J.arcs) is ∙ end_of-changed N.rows N.go N.come_rows I.arcs fit.go fit.rows.within)
        (ap (λ n. end_of n (flow_of now)) (sym fit.one_flow) ∙ flows)
        (length-end_of N.go I.arcs fit.go)

    pub fit_again : IsLawful I → All IsFlowValue (flow_of m) → NamedFit (named_turned N m) (instance_swapped N I)
    fit_again lawful flows =
        let gone = length-end_of N.go I.arcs fit.go in
        let arcs_left : length (instance_swapped N I).arcs - length N.come_rows ≡ length I.arcs - N.go = omega (arith, length-arcs) in
        let same_supplies : length (supplies_in (demand_swapped N.supplies I.demand)) ≡ length (supplies_in I.demand) = ap length (supplies_in-swapped N.supplies I.demand) ∙ length-exchanged N.supplies (supplies_in I.demand) in
        let rows : PlacesFit (IsRowOf I) (length I.arcs - N.go) (taken N.rows I.arcs) = fit_taken (IsRowOf I) (length I.arcs - N.go) N.rows I.arcs (omega arith) lawful.arcs fit.rows in
        record {
          supplies = rw same_supplies (fit_taken (IsWithin SUPPLY_LIMIT) (length (supplies_in I.demand)) N.supplies (supplies_in I.demand) (omega arith) (supplies_within I.nodes I.demand lawful.demand) fit.supplies);
          rows = record {
            rising = rows.rising;
            within = rw arcs_left rows.within;
            values = λ i d below. row_for I N.supplies (instance_swapped N I).arcs _ (rows.values i d below);
          };
          ends = ends_again;
          one_flow = turned_flows;
          come_rows = λ i d below. row_for I N.supplies (instance_swapped N I).arcs _ (All-end_of (IsRowOf I) N.go I.arcs lawful.arcs i d below);
          come_flows = All-end_of IsFlowValue N.go (flow_of m) flows;
          go = omega (arith, length-arcs);
          room = omega (arith, length-arcs, gone, fit.room, fit.go, lawful.count);
          one_end = one_end_again N m fit.one_end;
        }
