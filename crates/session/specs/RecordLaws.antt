-- The laws of a record as a change: a fitting record leaves a fitting one, and exchanging again gives back both.
use Rattle.std.proofs.Common.{◌≡◌, ℕ, ◌+◌, ◌-◌, ◌≤◌, ℤ, Bool, List, ◌++◌, length, refl, sym, ap, ap₂, subst, ◌∙◌, arith}
use Rattle.network.specs.Flow.{IsPotential}
use Rattle.network.specs.Instance.{Instance}
use Rattle.flow_solver.specs.declared.verdict.Verdict.{Verdict}
use Rattle.flow_solver.specs.Moment.{Moment, returned, VerdictFits}
use Rattle.flow_solver.specs.TablesView.{IsFlowValue}
use Rattle.flow_solver.specs.declared.part.Part.{Part}
use Rattle.session.specs.Places.{taken, end_of, changed}
use Rattle.session.specs.PlacesLaws.{length-exchanged, exchanged_again, taken_again, fit_taken, All-exchanged}
use Rattle.session.specs.EndingLaws.{changed_again, taken_changed, end_of-changed, length-changed, All-changed}
use Rattle.session.specs.Parts.{Named, named, listed, flow_of, instance_swapped, named_turned, NamedFit}
use Rattle.session.specs.PartsLaws.{named-listed, instance_again, length-arcs, lawful_again, go_flow, turned_flows, named_again, fit_again as named_fit_again}
use Rattle.session.specs.Record.{Recorded, with_record, record_turned, IsMark, IsMomentInRange, RecordFits}
use Rattle.session.specs.ReturnLaws.{numbered_behind, returned-swapped, numbered-swapped, verdict_fits-swapped}

pub moment_is : (m n : Moment) → n.instance ≡ m.instance → n.flow ≡ m.flow → n.potentials ≡ m.potentials → n.verdict ≡ m.verdict → n.cut ≡ m.cut → n ≡ m
moment_is m n same_instance same_flow same_potentials same_verdict same_cut =
    ap (λ (I : Instance). record n { instance = I }) same_instance
    ∙ ap (λ (xs : List ℤ). record n { instance = m.instance; flow = xs }) same_flow
    ∙ ap (λ (xs : List ℤ). record m { potentials = xs; verdict = n.verdict; cut = n.cut }) same_potentials
    ∙ ap (λ (v : Verdict). record m { verdict = v; cut = n.cut }) same_verdict
    ∙ ap (λ (xs : List Bool). record m { cut = xs }) same_cut

pub record_is : (r q : Recorded) → q.parts ≡ r.parts → q.flows ≡ r.flows → q.potentials ≡ r.potentials → q.marks ≡ r.marks → q.verdict ≡ r.verdict → q ≡ r
record_is r q same_parts same_flows same_potentials same_marks same_verdict =
    ap (λ (ps : List Part). record q { parts = ps }) same_parts
    ∙ ap (λ (ps : List (ℕ × ℤ)). record q { parts = r.parts; flows = ps }) same_flows
    ∙ ap (λ (ps : List (ℕ × ℤ)). record r { potentials = ps; marks = q.marks; verdict = q.verdict }) same_potentials
    ∙ ap (λ (ps : List (ℕ × Bool)). record r { marks = ps; verdict = q.verdict }) same_marks
    ∙ ap (λ (v : Verdict). record r { verdict = v }) same_verdict

-- the flows of the numbered arcs after the swap
pub flow_of-swapped : (r : Recorded) (m : Moment) → VerdictFits m.instance.demand r.verdict → flow_of (with_record r m) ≡ changed r.flows (named r.parts).go (named r.parts).come_flows (flow_of m)
flow_of-swapped r m fits =
    numbered-swapped (named r.parts).supplies m.instance.demand _
    ∙ numbered_behind m.instance.demand r.verdict (changed r.flows (named r.parts).go (named r.parts).come_flows (flow_of m)) fits

module _ (r : Recorded) (m : Moment) (fits : RecordFits r m) where
  abbrev N : Named
  N = named r.parts

  abbrev xs : List ℤ
  xs = flow_of m

  abbrev fit : NamedFit N m.instance
  fit = fits.parts.fit

  one : length xs ≡ length m.instance.arcs
  one = fits.in_range.one_an_arc

  pub go_there : N.go ≤ length xs
  go_there = go_flow N m fit one

  -- what the turned parts name
  named_turned_is : named (record_turned r m).parts ≡ named_turned N m
  named_turned_is = named-listed (named_turned N m) (turned_flows N m fit one)

  flow_again : (with_record (record_turned r m) (with_record r m)).flow ≡ m.flow
  flow_again =
      let rest : List ℤ → List ℤ = λ zs. returned m.instance.demand m.verdict ++ zs in
      ap (λ (M : Named). returned (with_record r m).instance.demand m.verdict ++ changed (taken r.flows xs) M.go M.come_flows (flow_of (with_record r m))) named_turned_is
      ∙ ap (λ zs. zs ++ changed (taken r.flows xs) (length N.come_rows) (end_of N.go xs) (flow_of (with_record r m))) (returned-swapped N.supplies m.instance.demand m.verdict)
      ∙ ap (λ zs. rest (changed (taken r.flows xs) (length N.come_rows) (end_of N.go xs) zs)) (flow_of-swapped r m fits.verdict)
      ∙ ap (λ n. rest (changed (taken r.flows xs) n (end_of N.go xs) (changed r.flows N.go N.come_flows xs))) (sym fit.one_flow)
      ∙ ap rest (changed_again r.flows N.go N.come_flows xs go_there fits.flows.within fits.flows.rising)
      ∙ sym fits.in_range.told

  pub board_again : with_record (record_turned r m) (with_record r m) ≡ m
  board_again =
      moment_is m (with_record (record_turned r m) (with_record r m))
      (ap (λ (M : Named). instance_swapped M (with_record r m).instance) named_turned_is ∙ instance_again N m fit)
      flow_again
      (exchanged_again r.potentials m.potentials (length m.potentials) fits.potentials.rising fits.potentials.within)
      refl
      (exchanged_again r.marks m.cut (length m.cut) fits.marks.rising fits.marks.within)

  -- the flows that came are the last
  pub flows_came : end_of (length N.come_flows) (flow_of (with_record r m)) ≡ N.come_flows
  flows_came = ap (end_of (length N.come_flows)) (flow_of-swapped r m fits.verdict) ∙ end_of-changed r.flows N.go N.come_flows xs go_there fits.flows.within

  pub change_again : record_turned (record_turned r m) (with_record r m) ≡ r
  change_again =
      record_is r (record_turned (record_turned r m) (with_record r m))
      (ap (λ (M : Named). listed (named_turned M (with_record r m))) named_turned_is ∙ ap listed (named_again N m fit one (with_record r m) refl flows_came) ∙ sym fits.parts.normal)
      (ap (taken (taken r.flows xs)) (flow_of-swapped r m fits.verdict) ∙ taken_changed r.flows N.go N.come_flows xs go_there fits.flows.within fits.flows.rising)
      (taken_again r.potentials m.potentials fits.potentials.rising fits.potentials.within)
      (taken_again r.marks m.cut fits.marks.rising fits.marks.within)
      refl

  -- ---- what is left fits

  length-flow : length (flow_of (with_record r m)) ≡ length xs - N.go + length N.come_flows
  length-flow = ap length (flow_of-swapped r m fits.verdict) ∙ length-changed r.flows N.go N.come_flows xs go_there fits.flows.within

  in_range_again : IsMomentInRange (with_record r m)
  in_range_again =
      let kept = fits.in_range in
      let flow_is = flow_of-swapped r m fits.verdict in
      record {
        lawful = lawful_again N m fit kept.lawful;
        verdict = rw (verdict_fits-swapped N.supplies m.instance.demand r.verdict) fits.verdict;
        told = sym (ap₂ ◌++◌ (returned-swapped N.supplies m.instance.demand r.verdict) flow_is);
        one_an_arc = omega (arith, length-flow, length-arcs N m fit, fit.one_flow, one);
        flow = rw flow_is (All-changed IsFlowValue r.flows N.go N.come_flows xs fits.flows.values fit.come_flows kept.flow);
        one_a_node = length-exchanged r.potentials m.potentials ∙ kept.one_a_node;
        potentials = All-exchanged IsPotential r.potentials m.potentials fits.potentials.values kept.potentials;
        marks = length-exchanged r.marks m.cut ∙ kept.marks;
      }

  pub fits_again : RecordFits (record_turned r m) (with_record r m)
  fits_again =
      let kept = fits.in_range in
      let flows_left : length (flow_of (with_record r m)) - (named (record_turned r m).parts).go ≡ length xs - N.go = omega (arith, length-flow, fit.one_flow, ap (λ (M : Named). M.go) named_turned_is) in
      record {
        in_range = in_range_again;
        parts = record {
          normal = ap listed (sym named_turned_is);
          fit = subst (λ (M : Named). NamedFit M (with_record r m).instance) (sym named_turned_is) (named_fit_again N m fit one kept.lawful kept.flow);
        };
        verdict = rw (verdict_fits-swapped N.supplies m.instance.demand m.verdict) kept.verdict;
        flows = rw flows_left (fit_taken IsFlowValue (length xs - N.go) r.flows xs (omega arith) kept.flow fits.flows);
        potentials = rw (length-exchanged r.potentials m.potentials) (fit_taken IsPotential (length m.potentials) r.potentials m.potentials (omega arith) kept.potentials fits.potentials);
        marks = rw (length-exchanged r.marks m.cut) (fit_taken IsMark (length m.cut) r.marks m.cut (omega arith) (λ i d below. tt) fits.marks);
      }
