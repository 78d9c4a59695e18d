-- The parts taken one after the other leave what the parts in their normal form leave.
use Rattle.std.proofs.Common.{◌≡◌, ℕ, zero, suc, ◌+◌, ◌-◌, ◌<◌, ◌≤◌, ℤ, pos, List, [], ◌∷◌, ◌++◌, length, get_or, set, take, drop, refl, sym, ap, ap₂, subst, ◌∙◌, arith, inl, inr, ◌⊎◌, append-nil, append_assoc, length-append, length-set, get_or-set_other}
use Rattle.std.proofs.Math.ListN.{replicate}
use Rattle.std.specs.List.{All}
use Rattle.std.proofs.lemmas.List.{drop_all, take_more, same_from_push, drop_more, take_all, nil_from_length}
use Rattle.dimacs_text.specs.declared.problem.ArcRow.{ArcRow}
use Rattle.dimacs_text.specs.declared.problem.TheConstants.{ARC_LIMIT, SUPPLY_LIMIT}
use Rattle.dimacs_text.specs.Lawful.{IsWithin}
use Rattle.network.specs.Instance.{Demand, Supplies, Instance, DemandFits, IsLawful, with_supply}
use Rattle.flow_solver.specs.Moment.{Moment}
use Rattle.flow_solver.specs.TablesView.{IsFlowValue, IsRowOf, HasEnds, supplies_in}
use Rattle.flow_solver.specs.declared.part.Part.{Part}
use Rattle.flow_solver.specs.declared.part.Part.TheVariants.{Arc, Supply, Last, Gone}
use Rattle.session.specs.Places.{PlacesFit, exchanged, taken, ended, end_of}
use Rattle.session.specs.PlacesLaws.{length-exchanged, taken-set, IsElsewhere, rising_head, rising_tail}
use Rattle.session.proofs.Endings.{end_of-exchanged}
use Rattle.session.specs.Parts.{Named, named, supply_parts, arc_parts, gone_parts, listed, flow_of, demand_swapped, named_turned, NamedFit, PartsFit, no_row, put_in, left_by, next_after, PartFits, cut_off}
use Rattle.session.specs.PartsLaws.{row_for, demand_fits-swapped, supplies_within}
use Rattle.session.proofs.Supplies.{has_supply}
use Rattle.session.specs.ReturnLaws.{numbered-swapped}

-- ---- one part after the other

abbrev pub run_moment : List Part → Moment → Moment
run_moment [] m = m
run_moment (p ∷ ps) m = run_moment ps (put_in p m)

abbrev pub run_parts : ℕ → List Part → Moment → List Part
run_parts next [] m = []
run_parts next (p ∷ ps) m = left_by next p m ∷ run_parts (next_after next p) ps (put_in p m)

abbrev pub CanRun : ℕ → List Part → Moment → Type 0
CanRun next [] m = Unit {0}
CanRun next (p ∷ ps) m = PartFits next p m × CanRun (next_after next p) ps (put_in p m)

-- such parts are left, and such a moment
pub record Runs (next : ℕ) (ps : List Part) (m : Moment) (left : List Part) (end : Moment) : Type 0 where
  pub can : CanRun next ps m
  pub parts : run_parts next ps m ≡ left
  pub moment : run_moment ps m ≡ end

-- what a run keeps while the parts before an index are exchanged
pub record IsRun (next i : ℕ) (now : List Part) (m : Moment) (left : List Part) (end : Moment) : Type 0 where
  pub can : CanRun next (drop i now) m
  pub parts : take i now ++ run_parts next (drop i now) m ≡ left
  pub moment : run_moment (drop i now) m ≡ end

pub run_start : (next : ℕ) (ps : List Part) (m : Moment) (left : List Part) (end : Moment) → Runs next ps m left end → IsRun next 0 ps m left end
run_start next ps m left end runs = record { can = runs.can; parts = runs.parts; moment = runs.moment }

pub run_end : (next i : ℕ) (now : List Part) (m : Moment) (left : List Part) (end : Moment) → length now ≤ i → IsRun next i now m left end → (now ≡ left) × (m ≡ end)
run_end next i now m left end all run =
    let none = drop_all i now all in (
      sym (append-nil now) ∙ ap (λ ps. ps ++ []) (sym (take_all i now all)) ∙ ap (λ ps. take i now ++ run_parts next ps m) (sym none) ∙ run.parts,
      ap (λ ps. run_moment ps m) (sym none) ∙ run.moment,
    )

-- ---- the sections of the normal form

demand_kept : (demand : Demand) → demand_swapped [] demand ≡ demand
demand_kept (Supplies supplies) = refl
demand_kept _ = refl

demand_more : (p : ℕ × ℤ) (places : List (ℕ × ℤ)) (demand : Demand) → demand_swapped places (with_supply demand p.0 p.1) ≡ demand_swapped (p ∷ places) demand
demand_more p places (Supplies supplies) = refl
demand_more p places _ = refl

demand_one : (p : ℕ × ℤ) (demand : Demand) → with_supply demand p.0 p.1 ≡ demand_swapped (p ∷ []) demand
demand_one p (Supplies supplies) = refl
demand_one p _ = refl

supplies_put : (p : ℕ × ℤ) (demand : Demand) → supplies_in (with_supply demand p.0 p.1) ≡ set (supplies_in demand) (p.0 - 1) p.1
supplies_put p (Supplies supplies) = refl
supplies_put p _ = refl

abbrev with_demand : Moment → Demand → Moment
with_demand m demand = record m { instance = record m.instance { demand = demand } }

abbrev with_arcs : Moment → List ArcRow → Moment
with_arcs m arcs = record m { instance = record m.instance { arcs = arcs } }

run_supplies : (next : ℕ) (places : List (ℕ × ℤ)) (qs : List Part) (m : Moment) (left : List Part) (end : Moment) → PlacesFit (IsWithin SUPPLY_LIMIT) (length (supplies_in m.instance.demand)) places → DemandFits m.instance.nodes m.instance.demand → Runs next qs (with_demand m (demand_swapped places m.instance.demand)) left end → Runs next (supply_parts places ++ qs) m (supply_parts (taken places (supplies_in m.instance.demand)) ++ left) end
run_supplies next [] qs m left end fit lawful runs = subst (λ (D : Demand). Runs next qs (with_demand m D) left end) (demand_kept m.instance.demand) runs
run_supplies next (p ∷ places) qs m left end fit lawful runs =
    let D : Demand = m.instance.demand in
    let xs : List ℤ = supplies_in D in
    let at = fit.within 0 p (omega arith) in
    let value = fit.values 0 p (omega arith) in
    let now : Moment = with_demand m (with_supply D p.0 p.1) in
    let put = supplies_put p D in
    let fit_rest : PlacesFit (IsWithin SUPPLY_LIMIT) (length (supplies_in now.instance.demand)) places = rw (put, length-set xs (p.0 - 1) p.1) record {
      rising = rising_tail p places fit.rising;
      within = λ k d below. fit.within (suc k) d (omega arith);
      values = λ k d below. fit.values (suc k) d (omega arith);
    } in
    let lawful_now : DemandFits m.instance.nodes now.instance.demand = rw (demand_one p D) (demand_fits-swapped m.instance.nodes (p ∷ []) D (all_one (λ q. IsWithin SUPPLY_LIMIT q.1) p value) lawful) in
    let rest = run_supplies next places qs now left end fit_rest lawful_now (subst (λ (E : Demand). Runs next qs (with_demand m E) left end) (sym (demand_more p places D)) runs) in
    let node = has_supply m.instance.nodes D p.0 lawful at.0 at.1 in
    record {
      can = ((node.0, node.1, at.1, value, supplies_within m.instance.nodes D lawful (p.0 - 1) p.1 (omega (arith, at.0, at.1))), rest.can);
      parts =
          ap (λ ps. Supply p.0 (get_or xs (p.0 - 1) p.1) ∷ ps)
          (rest.parts ∙ ap (λ qs. supply_parts qs ++ left) (ap (taken places) put ∙ taken-set places xs (p.0 - 1) p.1 (rising_head p places fit.rising at.0)));
      moment = rest.moment;
    }
  where
    all_one : (P : ℕ × ℤ → Type 0) (q : ℕ × ℤ) → P q → All P (q ∷ [])
    all_one P q holds zero d below = holds
    all_one P q holds (suc i) d below = absurd (omega arith)

ends_rest : (p : ℕ × ArcRow) (places : List (ℕ × ArcRow)) (arcs : List ArcRow) → IsElsewhere (p.0 - 1) places → All (λ q. HasEnds arcs q.0 q.1) (p ∷ places) → All (λ q. HasEnds (set arcs (p.0 - 1) p.1) q.0 q.1) places
ends_rest p places arcs elsewhere ends k d below =
    let q : ℕ × ArcRow = get_or places k d in
    let at = ends (suc k) d (omega arith) in
    let apart = elsewhere k d below in
    let same = sym (get_or-set_other arcs (p.0 - 1) (q.0 - 1) p.1 q.1 (λ e. apart (sym e))) in
    (at.0, rw (length-set arcs (p.0 - 1) p.1) at.1, at.2 ∙ ap (λ (r : ArcRow). r.tail) same, at.3 ∙ ap (λ (r : ArcRow). r.head) same)

run_arcs : (next n : ℕ) (places : List (ℕ × ArcRow)) (qs : List Part) (m : Moment) (left : List Part) (end : Moment) → PlacesFit (IsRowOf m.instance) n places → All (λ q. HasEnds m.instance.arcs q.0 q.1) places → Runs next qs (with_arcs m (exchanged places m.instance.arcs)) left end → Runs next (arc_parts places ++ qs) m (arc_parts (taken places m.instance.arcs) ++ left) end
run_arcs next n [] qs m left end fit ends runs = runs
run_arcs next n (p ∷ places) qs m left end fit ends runs =
    let arcs : List ArcRow = m.instance.arcs in
    let at = ends 0 p (omega arith) in
    let now : Moment = with_arcs m (set arcs (p.0 - 1) p.1) in
    let elsewhere = rising_head p places fit.rising at.0 in
    let fit_rest : PlacesFit (IsRowOf m.instance) n places = record {
      rising = rising_tail p places fit.rising;
      within = λ k d below. fit.within (suc k) d (omega arith);
      values = λ k d below. fit.values (suc k) d (omega arith);
    } in
    let rest = run_arcs next n places qs now left end fit_rest (ends_rest p places arcs elsewhere ends) runs in
    record {
      can = ((at, fit.values 0 p (omega arith)), rest.can);
      parts =
          ap (λ ps. Arc p.0 (get_or arcs (p.0 - 1) p.1) ∷ ps)
          (rest.parts ∙ ap (λ qs. arc_parts qs ++ left) (taken-set places arcs (p.0 - 1) p.1 elsewhere));
      moment = rest.moment;
    }

abbrev grown : Moment → List ArcRow → List ℤ → Moment
grown m rows flows = record m { instance = record m.instance { arcs = m.instance.arcs ++ rows }; flow = m.flow ++ flows }

-- arcs come one after the other
run_gone : (next : ℕ) (rows : List ArcRow) (flows : List ℤ) (m : Moment) → length flows ≡ length rows → length m.instance.arcs + length rows ≤ m.instance.room → All (IsRowOf m.instance) rows → All IsFlowValue flows → Runs next (gone_parts rows flows) m (replicate (length rows) Last) (grown m rows flows)
run_gone next [] [] m same room are_rows are_flows = record {
  can = tt;
  parts = refl;
  moment = sym (ap₂ (λ (xs : List ArcRow) (ys : List ℤ). record m { instance = record m.instance { arcs = xs }; flow = ys }) (append-nil m.instance.arcs) (append-nil m.flow));
}
run_gone next (row ∷ rows) (flow ∷ flows) m same room are_rows are_flows =
    let now : Moment = grown m (row ∷ []) (flow ∷ []) in
    let rest = run_gone next rows flows now (omega arith) (omega (arith, length-append m.instance.arcs (row ∷ []))) (λ k d below. are_rows (suc k) d (omega arith)) (λ k d below. are_flows (suc k) d (omega arith)) in
    record {
      can = ((omega arith, are_rows 0 row (omega arith), are_flows 0 flow (omega arith)), rest.can);
      parts = ap (λ ps. Last ∷ ps) rest.parts;
      moment = rest.moment ∙ ap₂ (λ (xs : List ArcRow) (ys : List ℤ). record m { instance = record m.instance { arcs = xs }; flow = ys }) (append_assoc m.instance.arcs (row ∷ []) rows) (append_assoc m.flow (flow ∷ []) flows);
    }
run_gone next _ _ m same room are_rows are_flows = absurd (omega arith)

-- arcs are read one after the other
run_last : (n next : ℕ) (m : Moment) → next + n ≡ length m.instance.arcs → next + n ≡ length (flow_of m) → length m.instance.arcs ≤ ARC_LIMIT → Runs next (replicate n Last) m (gone_parts (drop next m.instance.arcs) (drop next (flow_of m))) m
run_last zero next m rows flow few = record {
  can = tt;
  parts = sym (ap (λ (xs : List ArcRow). gone_parts xs (drop next (flow_of m))) (drop_all next m.instance.arcs (omega arith)));
  moment = refl;
}
run_last (suc n) next m rows flow few =
    let rest = run_last n (next + 1) m (omega arith) (omega arith) few in
    record {
      can = ((omega arith, omega arith, omega arith), rest.can);
      parts =
          ap (λ ps. Gone (get_or m.instance.arcs next no_row) (get_or (flow_of m) next (pos 0)) ∷ ps) rest.parts
          ∙ sym (ap₂ gone_parts (drop_more m.instance.arcs next no_row (omega arith)) (drop_more (flow_of m) next (pos 0) (omega arith)));
      moment = rest.moment;
    }

-- arcs come, or arcs are read
run_end_parts : (go : ℕ) (rows : List ArcRow) (flows : List ℤ) (m : Moment) → (go ≡ 0) ⊎ (rows ≡ []) → length flows ≡ length rows → length (flow_of m) ≡ length m.instance.arcs → go ≤ length m.instance.arcs → length m.instance.arcs + length rows ≤ m.instance.room → length m.instance.arcs ≤ ARC_LIMIT → All (IsRowOf m.instance) rows → All IsFlowValue flows → Runs (length m.instance.arcs - go) (gone_parts rows flows ++ replicate go Last) m (gone_parts (end_of go m.instance.arcs) (end_of go (flow_of m)) ++ replicate (length rows) Last) (grown m rows flows)
run_end_parts go rows flows m (inl none) same one go_there room few are_rows are_flows =
    let no_rows : end_of 0 m.instance.arcs ≡ [] = drop_all (length m.instance.arcs - 0) m.instance.arcs (omega arith) in
    rw (none, append-nil (gone_parts rows flows), no_rows) (run_gone (length m.instance.arcs - 0) rows flows m same room are_rows are_flows)
run_end_parts go rows flows m (inr none) same one go_there room few are_rows are_flows =
    let no_flows : flows ≡ [] = nil_from_length flows (omega (arith, ap length none)) in
    let same_place : end_of go (flow_of m) ≡ drop (length m.instance.arcs - go) (flow_of m) = ap (λ (k : ℕ). drop (k - go) (flow_of m)) one in
    rw (none, no_flows, same_place, append-nil (gone_parts (end_of go m.instance.arcs) (drop (length m.instance.arcs - go) (flow_of m))), append-nil m.instance.arcs, append-nil m.flow) (run_last go (length m.instance.arcs - go) m (omega arith) (omega arith) few)

-- ---- the whole

-- the moment before the arcs that go are dropped
abbrev pub all_put : Named → Moment → Moment
all_put N m = record m {
  instance = record m.instance { demand = demand_swapped N.supplies m.instance.demand; arcs = exchanged N.rows m.instance.arcs ++ N.come_rows };
  flow = m.flow ++ N.come_flows;
}

module _ (ps : List Part) (m : Moment) (fits : PartsFit ps m.instance) (lawful : IsLawful m.instance) (one : length (flow_of m) ≡ length m.instance.arcs) where
  abbrev N : Named
  N = named ps

  pub runs : Runs (length m.instance.arcs - N.go) ps m (listed (named_turned N m)) (all_put N m)
  runs =
      let I : Instance = m.instance in
      let fit : NamedFit N I = fits.fit in
      let same = length-exchanged N.rows I.arcs in
      let D : Demand = demand_swapped N.supplies I.demand in
      let sent : Moment = with_demand m D in
      let put : Moment = with_arcs sent (exchanged N.rows I.arcs) in
      let flow_is : flow_of put ≡ flow_of m = numbered-swapped N.supplies I.demand m.flow in
      let rows_put : All (IsRowOf put.instance) N.come_rows = λ i d below. row_for I N.supplies put.instance.arcs _ (fit.come_rows i d below) in
      let last = run_end_parts N.go N.come_rows N.come_flows put fit.one_end fit.one_flow (omega (arith, one, ap length flow_is, same)) (omega (arith, same, fit.go)) (omega (arith, same, fit.room)) (omega (arith, same, lawful.count, lawful.room)) rows_put fit.come_flows in
      let here = rw (end_of-exchanged N.rows N.go I.arcs fit.go fit.rows.within, same, flow_is) at last in
      let rows : PlacesFit (IsRowOf sent.instance) (length I.arcs - N.go) N.rows = record {
        rising = fit.rows.rising;
        within = fit.rows.within;
        values = λ i d below. row_for I N.supplies I.arcs _ (fit.rows.values i d below);
      } in
      subst (λ qs. Runs (length I.arcs - N.go) qs m (listed (named_turned N m)) (all_put N m)) (sym fits.normal)
      (run_supplies (length I.arcs - N.go) N.supplies _ m _ (all_put N m) fit.supplies lawful.demand
      (run_arcs (length I.arcs - N.go) (length I.arcs - N.go) N.rows _ sent _ (all_put N m) rows fit.ends here))

  -- the arcs that go are still there
  pub rows_there : N.go ≤ length (all_put N m).instance.arcs
  rows_there = omega (arith, fits.fit.go, length-append (exchanged N.rows m.instance.arcs) N.come_rows, length-exchanged N.rows m.instance.arcs)

-- ---- the arcs that go are dropped

cut_one : {X : Type 0} (xs ys zs : List X) (y : X) (i : ℕ) → i < length xs → zs ≡ ended i [] xs → zs ≡ ys ++ y ∷ [] → ys ≡ ended (i + 1) [] xs
cut_one xs ys zs y i below zs_is split =
    let j : ℕ = length xs - (i + 1) in
    let one_more : length xs - i ≡ j + 1 = omega arith in
    let same = sym split ∙ zs_is ∙ append-nil (take (length xs - i) xs) ∙ ap (λ k. take k xs) one_more ∙ take_more xs j y (omega arith) in
    (same_from_push ys (take j xs) y (get_or xs j y) same).0 ∙ sym (append-nil (take j xs))

-- one arc more is dropped
pub cut_more : (m now next : Moment) (row : ArcRow) (flow : ℤ) (i : ℕ) → i < length m.instance.arcs → i < length m.flow → now ≡ cut_off i m → now.instance ≡ record next.instance { arcs = next.instance.arcs ++ row ∷ [] } → now.flow ≡ next.flow ++ flow ∷ [] → next ≡ record now { instance = next.instance; flow = next.flow } → next ≡ cut_off (i + 1) m
cut_more m now next row flow i below below_flow now_is rows flows rest =
    let arcs : next.instance.arcs ≡ ended (i + 1) [] m.instance.arcs = cut_one m.instance.arcs next.instance.arcs now.instance.arcs row i below (ap (λ (k : Moment). k.instance.arcs) now_is) (ap (λ (I : Instance). I.arcs) rows) in
    rest
    ∙ ap₂ (λ (I : Instance) (ys : List ℤ). record now { instance = I; flow = ys })
    (ap (λ (I : Instance). record I { arcs = next.instance.arcs }) (sym rows))
    (cut_one m.flow next.flow now.flow flow i below_flow (ap (λ (k : Moment). k.flow) now_is) flows)
    ∙ ap (λ (xs : List ArcRow). record now { instance = record now.instance { arcs = xs }; flow = ended (i + 1) [] m.flow }) arcs
    ∙ ap (λ (k : Moment). record k { instance = record k.instance { arcs = ended (i + 1) [] m.instance.arcs }; flow = ended (i + 1) [] m.flow }) now_is

length-run_parts : (next : ℕ) (ps : List Part) (m : Moment) → length (run_parts next ps m) ≡ length ps
length-run_parts next [] m = refl
length-run_parts next (p ∷ ps) m = ap suc (length-run_parts (next_after next p) ps (put_in p m))

-- as many parts are left as there were
pub length-turned : (ps : List Part) (m : Moment) → PartsFit ps m.instance → IsLawful m.instance → length (flow_of m) ≡ length m.instance.arcs → length (listed (named_turned (named ps) m)) ≡ length ps
length-turned ps m fits lawful one = ap length (sym (runs ps m fits lawful one).parts) ∙ length-run_parts (length m.instance.arcs - (named ps).go) ps m
