-- The record of a change fits the tables, leads to the moment before it, and names only what differs.
use Rattle.std.proofs.Common.{◌≡◌, ℕ, ◌-◌, ◌≤◌, ℤ, Bool, List, [], ◌++◌, length, take, drop, Option, Some, None, IsSome, IfSome, refl, sym, ap, subst, ◌∙◌, arith}
use mathlib.Core.Bool.{false≢true}
use Rattle.std.specs.List.{All, filter}
use Rattle.std.specs.Option.{unwrap_or}
use Rattle.std.proofs.lemmas.List.{take_all, drop_all, take_at, append-nil}
use Rattle.network.specs.Flow.{IsPotential}
use Rattle.network.specs.Instance.{Demand, Supplies, Instance}
use Rattle.network.proofs.Answering.{potentials_from}
use Rattle.flow_solver.specs.declared.verdict.Verdict.{Verdict}
use Rattle.flow_solver.specs.Moment.{Moment, VerdictFits, returned}
use Rattle.flow_solver.specs.Answer.{IsAnswered}
use Rattle.flow_solver.specs.Touched.{NameChanges}
use Rattle.flow_solver.specs.TablesView.{IsFlowValue}
use Rattle.network.specs.Rows.{return_arcs}
use Rattle.flow_solver.specs.Part.{LeadsBack}
use Rattle.flow_solver.proofs.AnswerLemmas.{verdict_fits, flow_told, flows_within}
use Rattle.flow_solver.specs.declared.part.Part.{Part}
use Rattle.session.specs.Group.{is_there, last_parts, rank, AreFirst}
use Rattle.session.specs.Places.{exchanged, PlacesFit, AreFound, ended}
use Rattle.session.specs.PlacesLaws.{length-exchanged}
use Rattle.session.specs.Parts.{Named, named, flow_of, demand_swapped, instance_swapped, PartsLeadBack}
use Rattle.session.specs.Record.{Recorded, with_record, IsMomentInRange, IsMark, RecordFits, Differs}
use Rattle.session.specs.ReturnLaws.{returned-swapped, verdict_fits-swapped}
use Rattle.session.proofs.Logged.{parts_back, AreNamedBy, AreOf}
use Rattle.session.proofs.Returns.{length-numbered}
use Rattle.session.specs.RecordLaws.{moment_is}

-- an answered moment is within the limits
pub in_range_answered : (m : Moment) → IsAnswered m → IsMomentInRange m
in_range_answered m answered =
    let sized = answered.sized in
    record {
      lawful = sized.lawful;
      verdict = verdict_fits m answered;
      told = sym (flow_told m answered);
      one_an_arc = length-numbered m.instance.demand m.instance.arcs m.flow sized.one_flow;
      flow = flows_within m answered;
      one_a_node = sized.one_potential;
      potentials = potentials_from m.instance.nodes m.potentials sized.one_potential answered.certified.range;
      marks = sized.one_mark;
    }

module _ {X : Type 0} (places : List (ℕ × X)) (old new : List X) (found : AreFound places old new (length old)) where
  front_found : exchanged places new ≡ old ++ drop (length old) new
  front_found = found.exchange ∙ ap (λ (xs : List X). xs ++ drop (length old) new) (take_all (length old) old (omega arith))

  -- what is found gives the old list back, but for values at the end
  ended_found : (n : ℕ) → length new - n ≡ length old → ended n [] (exchanged places new) ≡ old
  ended_found n same =
      append-nil (take (length (exchanged places new) - n) (exchanged places new))
      ∙ ap (λ (k : ℕ). take (k - n) (exchanged places new)) (length-exchanged places new)
      ∙ ap (take (length new - n)) front_found
      ∙ take_at old (drop (length old) new) (length new - n) (sym same)

  kept_found : length new ≡ length old → exchanged places new ≡ old
  kept_found same = front_found ∙ ap (λ (xs : List X). old ++ xs) (drop_all (length old) new (omega arith)) ∙ append-nil old

  fit_found : (P : X → Type 0) (n : ℕ) → n ≡ length old → All P old → PlacesFit P n places
  fit_found P n same all = record {
    rising = found.rising;
    within = rw same found.within;
    values = λ i d below. let at = found.within i d below in rw (← found.values i d below) (all _ _ (omega (arith, at.0, at.1)));
  }

-- the record of what is found after edits
pub record IsRecordOf (r : Recorded) (m old : Moment) : Type 0 where
  pub fits : RecordFits r m
  pub leads : with_record r m ≡ old
  pub exact : Differs r m

nodes_same : (N : Named) (I J : Instance) → instance_swapped N J ≡ I → J.nodes ≡ I.nodes
nodes_same N I J back = ap (λ (K : Instance). K.nodes) back

-- other supplies leave the return arc where it is
count_same : (places : List (ℕ × ℤ)) (demand : Demand) → return_arcs (demand_swapped places demand) ≡ return_arcs demand
count_same places (Supplies supplies) = refl
count_same places _ = refl

-- what can be told is the same before the edits
told_before : (N : Named) (I before : Instance) (verdict : Verdict) → instance_swapped N I ≡ before → VerdictFits before.demand verdict → VerdictFits I.demand verdict
told_before N I before verdict back fits = rw (← verdict_fits-swapped N.supplies I.demand verdict) (rw (← back) at fits)

returned_before : (N : Named) (I before : Instance) (verdict : Verdict) → instance_swapped N I ≡ before → returned I.demand verdict ≡ returned before.demand verdict
returned_before N I before verdict back = sym (returned-swapped N.supplies I.demand verdict) ∙ ap (λ (J : Instance). returned J.demand verdict) back

pub is_record_of : (parts : List Part) (old m : Moment) (flows potentials : List (ℕ × ℤ)) (marks : List (ℕ × Bool)) → IsAnswered old → IsAnswered m → PartsLeadBack parts old.instance m.instance → AreFound flows (flow_of old) (flow_of m) (length (flow_of old)) → AreFound potentials old.potentials m.potentials (length old.potentials) → AreFound marks old.cut m.cut (length old.cut) → IsRecordOf (record { parts = parts; flows = flows; potentials = potentials; marks = marks; verdict = old.verdict }) m old
is_record_of parts old m flows potentials marks old_answered answered leads flows_found potentials_found marks_found =
    let kept = in_range_answered m answered in
    let was = in_range_answered old old_answered in
    let N : Named = named parts in
    let nodes = nodes_same N old.instance m.instance leads.back in
    let shared_is : length (flow_of m) - N.go ≡ length (flow_of old) = ap (λ (n : ℕ). n - N.go) kept.one_an_arc ∙ leads.shared_arcs ∙ sym was.one_an_arc in
    let same_potentials : length m.potentials ≡ length old.potentials = kept.one_a_node ∙ nodes ∙ sym was.one_a_node in
    let same_marks : length m.cut ≡ length old.cut = kept.marks ∙ nodes ∙ sym was.marks in
    record {
      fits = record {
        in_range = kept;
        parts = leads.fits;
        verdict = told_before N m.instance old.instance old.verdict leads.back was.verdict;
        flows = fit_found flows (flow_of old) (flow_of m) flows_found IsFlowValue (length (flow_of m) - N.go) shared_is was.flow;
        potentials = fit_found potentials old.potentials m.potentials potentials_found IsPotential (length m.potentials) same_potentials was.potentials;
        marks = fit_found marks old.cut m.cut marks_found IsMark (length m.cut) same_marks (λ i d below. tt);
      };
      leads = moment_is old (with_record (record { parts = parts; flows = flows; potentials = potentials; marks = marks; verdict = old.verdict }) m)
          leads.back
          (ap (λ (xs : List ℤ). returned m.instance.demand old.verdict ++ ended N.go xs (exchanged flows (flow_of m))) leads.no_flows
          ∙ ap (λ (xs : List ℤ). returned m.instance.demand old.verdict ++ xs) (ended_found flows (flow_of old) (flow_of m) flows_found N.go shared_is)
          ∙ ap (λ (xs : List ℤ). xs ++ flow_of old) (returned_before N m.instance old.instance old.verdict leads.back)
          ∙ sym was.told)
          (kept_found potentials old.potentials m.potentials potentials_found same_potentials)
          refl
          (kept_found marks old.cut m.cut marks_found same_marks);
      exact = record { flows = flows_found.differ; potentials = potentials_found.differ; marks = marks_found.differ };
    }

-- ---- what the tables tell of the last change

module _ (before : Option Moment) (m : Moment) (some : IsSome before) (was_answered : IsAnswered (unwrap_or before m)) (answered : IsAnswered m) where
  abbrev pub was_moment : Moment
  was_moment = unwrap_or before m

  pub from_some : (P : Moment → Type 0) → IfSome before P → P was_moment
  from_some P holds = by before some holds
    where
      by : (o : Option Moment) → IsSome o → IfSome o P → P (unwrap_or o m)
      by None is there = absurd (false≢true is)
      by (Some old) is there = there

  is_some : before ≡ Some was_moment
  is_some = by before some
    where
      by : (o : Option Moment) → IsSome o → o ≡ Some (unwrap_or o m)
      by None is = absurd (false≢true is)
      by (Some old) is = refl

  -- how many arcs there were
  pub old_arcs : (xs : List ℤ) → IfSome before (λ old. xs ≡ flow_of old) → length xs ≡ length was_moment.instance.arcs
  old_arcs xs is_xs =
      let old_is : xs ≡ flow_of was_moment = from_some (λ old. xs ≡ flow_of old) is_xs in
      ap length old_is ∙ (in_range_answered was_moment was_answered).one_an_arc

  -- the parts that were logged first, and one for each arc that was added
  pub named_back : (log firsts parts : List Part) (flow : List ℤ) (nodes : ℕ) → IfSome before (λ old. LeadsBack log old.instance m.instance) → IfSome before (λ old. flow ≡ flow_of old) → nodes ≡ m.instance.nodes
      → AreFirst (rank nodes) (filter (is_there (length flow)) log) firsts → parts ≡ firsts ++ last_parts log → LeadsBack log was_moment.instance m.instance × AreNamedBy was_moment.instance log parts
  named_back log firsts parts flow nodes leads is_flow is_nodes first are =
      let back : LeadsBack log was_moment.instance m.instance = from_some (λ old. LeadsBack log old.instance m.instance) leads in
      let of : AreOf was_moment.instance m.instance log firsts = record { leads = back; first = rw (is_nodes, old_arcs flow is_flow) at first; lawful = answered.sized.lawful } in
      (back, parts_back was_moment.instance m.instance log firsts of parts are)

  module _ (parts : List Part) (back : PartsLeadBack parts was_moment.instance m.instance) where
    pub same_potentials : (xs ys : List ℤ) → IfSome before (λ old. xs ≡ old.potentials) → ys ≡ m.potentials → length xs ≤ length ys
    same_potentials xs ys is_xs is_ys =
        let was = in_range_answered was_moment was_answered in
        let kept = in_range_answered m answered in
        let nodes = nodes_same (named parts) was_moment.instance m.instance back.back in
        omega (arith, ap length (from_some (λ old. xs ≡ old.potentials) is_xs), ap length is_ys, was.one_a_node, kept.one_a_node, nodes)

    pub same_marks : (xs ys : List Bool) → IfSome before (λ old. xs ≡ old.cut) → ys ≡ m.cut → length xs ≤ length ys
    same_marks xs ys is_xs is_ys =
        let was = in_range_answered was_moment was_answered in
        let kept = in_range_answered m answered in
        let nodes = nodes_same (named parts) was_moment.instance m.instance back.back in
        omega (arith, ap length (from_some (λ old. xs ≡ old.cut) is_xs), ap length is_ys, was.marks, kept.marks, nodes)

  -- the touched places name what changed in a list of the moment before
  changes_named : {T : Type 0} (first : ℕ) (first_in : Moment → ℕ) (list_of : Moment → List T) (places : List ℕ) (xs ys : List T) → first ≡ first_in was_moment → IfSome before (λ old. NameChanges (first_in old) places (list_of old) (list_of m)) → IfSome before (λ old. xs ≡ list_of old) → ys ≡ list_of m → NameChanges first places xs ys
  changes_named {T} first first_in list_of places xs ys is_first names is_xs is_ys =
      let named : NameChanges (first_in was_moment) places (list_of was_moment) (list_of m) = from_some (λ old. NameChanges (first_in old) places (list_of old) (list_of m)) names in
      let old_is : xs ≡ list_of was_moment = from_some (λ old. xs ≡ list_of old) is_xs in
      subst (λ (n : ℕ). NameChanges n places xs ys) (sym is_first)
      (subst (λ (zs : List T). NameChanges (first_in was_moment) places zs ys) (sym old_is) (subst (λ (zs : List T). NameChanges (first_in was_moment) places (list_of was_moment) zs) (sym is_ys) named))

  pub flows_named : (parts : List Part) → PartsLeadBack parts was_moment.instance m.instance → (first : ℕ) (places : List ℕ) (xs ys : List ℤ) → first ≡ return_arcs m.instance.demand → IfSome before (λ old. NameChanges (return_arcs old.instance.demand) places (flow_of old) (flow_of m)) → IfSome before (λ old. xs ≡ flow_of old) → ys ≡ flow_of m → NameChanges first places xs ys
  flows_named parts back first places xs ys is_first =
      let same : return_arcs m.instance.demand ≡ return_arcs was_moment.instance.demand =
      sym (count_same (named parts).supplies m.instance.demand) ∙ ap (λ (I : Instance). return_arcs I.demand) back.back in
      changes_named first (λ old. return_arcs old.instance.demand) flow_of places xs ys (is_first ∙ same)

  pub potentials_named : (places : List ℕ) (xs ys : List ℤ) → IfSome before (λ old. NameChanges 1 places old.potentials m.potentials) → IfSome before (λ old. xs ≡ old.potentials) → ys ≡ m.potentials → NameChanges 1 places xs ys
  potentials_named places xs ys = changes_named 1 (λ old. 1) (λ old. old.potentials) places xs ys refl

  pub marks_named : (places : List ℕ) (xs ys : List Bool) → IfSome before (λ old. NameChanges 1 places old.cut m.cut) → IfSome before (λ old. xs ≡ old.cut) → ys ≡ m.cut → NameChanges 1 places xs ys
  marks_named places xs ys = changes_named 1 (λ old. 1) (λ old. old.cut) places xs ys refl

  pub told : (parts : List Part) (flows potentials : List (ℕ × ℤ)) (marks : List (ℕ × Bool)) (verdict : Verdict) (old_flow flow old_potentials new_potentials : List ℤ) (old_cut cut : List Bool) → PartsLeadBack parts was_moment.instance m.instance → IfSome before (λ old. old_flow ≡ flow_of old) → flow ≡ flow_of m → IfSome before (λ old. old_potentials ≡ old.potentials) → new_potentials ≡ m.potentials → IfSome before (λ old. old_cut ≡ old.cut) → cut ≡ m.cut → IfSome before (λ old. verdict ≡ old.verdict) → AreFound flows old_flow flow (length old_flow) → AreFound potentials old_potentials new_potentials (length old_potentials) → AreFound marks old_cut cut (length old_cut) → let r : Recorded = record { parts = parts; flows = flows; potentials = potentials; marks = marks; verdict = verdict } in RecordFits r m × (before ≡ Some (with_record r m))
  told parts flows potentials marks verdict old_flow flow old_potentials new_potentials old_cut cut back is_old_flow is_flow is_old_potentials is_potentials is_old_cut is_cut is_verdict flows_found potentials_found marks_found =
      let old_flow_is : old_flow ≡ flow_of was_moment = from_some (λ old. old_flow ≡ flow_of old) is_old_flow in
      let old_potentials_are : old_potentials ≡ was_moment.potentials = from_some (λ old. old_potentials ≡ old.potentials) is_old_potentials in
      let old_cut_is : old_cut ≡ was_moment.cut = from_some (λ old. old_cut ≡ old.cut) is_old_cut in
      let verdict_is : verdict ≡ was_moment.verdict = from_some (λ old. verdict ≡ old.verdict) is_verdict in
      let made = is_record_of parts was_moment m flows potentials marks was_answered answered back
      (rw (old_flow_is, is_flow) at flows_found) (rw (old_potentials_are, is_potentials) at potentials_found) (rw (old_cut_is, is_cut) at marks_found) in
      rw verdict_is (made.fits, is_some ∙ ap (λ (n : Moment). Some n) (sym made.leads))
