-- What a record is left with when it is exchanged list by list.
use Rattle.std.proofs.Common.{◌≡◌, ℕ, ℤ, Bool, List, ◌++◌, length, sym, ap, subst, ◌∙◌, arith}
use Rattle.network.specs.Instance.{IsLawful}
use Rattle.flow_solver.specs.declared.verdict.Verdict.{Verdict}
use Rattle.flow_solver.specs.Moment.{Moment, returned, with_verdict}
use Rattle.flow_solver.specs.declared.part.Part.{Part}
use Rattle.session.specs.Places.{exchanged, taken, end_of}
use Rattle.session.specs.PlacesLaws.{length-exchanged}
use Rattle.session.specs.Parts.{Named, named, listed, flow_of, named_turned, parts_swapped, PartsFit}
use Rattle.session.specs.Record.{Recorded, with_flow, with_record, record_turned, RecordFits}
use Rattle.session.proofs.Endings.{ended_behind, end_of-exchanged}
use Rattle.session.specs.ReturnLaws.{numbered_behind}
use Rattle.session.specs.RecordLaws.{go_there, record_is}

-- the moment once the lists and the verdict are exchanged, and the parts are not
abbrev lists_swapped : Recorded → Moment → Moment
lists_swapped r m = record m {
  flow = returned m.instance.demand r.verdict ++ exchanged r.flows (flow_of m);
  potentials = exchanged r.potentials m.potentials;
  verdict = r.verdict;
  cut = exchanged r.marks m.cut;
}

module _ (r : Recorded) (m : Moment) (fits : RecordFits r m) where
  flows_behind : flow_of (lists_swapped r m) ≡ exchanged r.flows (flow_of m)
  flows_behind = numbered_behind m.instance.demand r.verdict (exchanged r.flows (flow_of m)) fits.verdict

  abbrev N : Named
  N = named r.parts

  parts_turned_after : named_turned N (lists_swapped r m) ≡ named_turned N m
  parts_turned_after =
      ap (λ (xs : List ℤ). record (named_turned N m) { come_flows = xs })
      (ap (end_of N.go) flows_behind ∙ end_of-exchanged r.flows N.go (flow_of m) (go_there r m fits) fits.flows.within)

  module _ (m₁ m₂ m₃ : Moment) (is_m₁ : m₁ ≡ with_flow m (exchanged r.flows (flow_of m))) (is_m₂ : m₂ ≡ record m₁ { potentials = exchanged r.potentials m₁.potentials }) (is_m₃ : m₃ ≡ record m₂ { cut = exchanged r.marks m₂.cut }) where
    -- before the verdict is exchanged
    third : m₃ ≡ record m { flow = returned m.instance.demand m.verdict ++ exchanged r.flows (flow_of m); potentials = exchanged r.potentials m.potentials; cut = exchanged r.marks m.cut }
    third = is_m₃ ∙ ap (λ (n : Moment). record n { cut = exchanged r.marks n.cut }) (is_m₂ ∙ ap (λ (n : Moment). record n { potentials = exchanged r.potentials n.potentials }) is_m₁)

    module _ (m₄ : Moment) (is_m₄ : m₄ ≡ with_verdict m₃ r.verdict) where
      fourth : m₄ ≡ lists_swapped r m
      fourth =
          is_m₄
          ∙ ap (λ (n : Moment). with_verdict n r.verdict) third
          ∙ ap (λ (xs : List ℤ). record (lists_swapped r m) { flow = returned m.instance.demand r.verdict ++ xs }) (numbered_behind m.instance.demand m.verdict (exchanged r.flows (flow_of m)) fits.in_range.verdict)

      pub lawful_fourth : IsLawful m₄.instance
      lawful_fourth = subst (λ (n : Moment). IsLawful n.instance) (sym fourth) fits.in_range.lawful

      pub one_an_arc_fourth : length (flow_of m₄) ≡ length m₄.instance.arcs
      one_an_arc_fourth = subst (λ (n : Moment). length (flow_of n) ≡ length n.instance.arcs) (sym fourth) (ap length flows_behind ∙ length-exchanged r.flows (flow_of m) ∙ fits.in_range.one_an_arc)

      pub parts_fourth : PartsFit r.parts m₄.instance
      parts_fourth = subst (λ (n : Moment). PartsFit r.parts n.instance) (sym fourth) fits.parts

      -- what the moment is in the end, and what is left of the record
      pub moment_left : (m₅ : Moment) → m₅ ≡ parts_swapped N m₄ → m₅ ≡ with_record r m
      moment_left m₅ is_m₅ =
          is_m₅
          ∙ ap (parts_swapped N) fourth
          ∙ ap (λ (xs : List ℤ). record (with_record r m) { flow = xs })
          (ended_behind (returned m.instance.demand r.verdict) N.go N.come_flows (exchanged r.flows (flow_of m)) (omega (arith, go_there r m fits, length-exchanged r.flows (flow_of m))))

      pub record_left : (parts : List Part) (flows potentials : List (ℕ × ℤ)) (marks : List (ℕ × Bool)) (verdict : Verdict) → flows ≡ taken r.flows (flow_of m) → potentials ≡ taken r.potentials m₁.potentials → marks ≡ taken r.marks m₂.cut → verdict ≡ m₃.verdict → parts ≡ listed (named_turned N m₄) → record { parts = parts; flows = flows; potentials = potentials; marks = marks; verdict = verdict } ≡ record_turned r m
      record_left parts flows potentials marks verdict flows_are potentials_are marks_are verdict_is parts_are =
          record_is (record_turned r m) (record { parts = parts; flows = flows; potentials = potentials; marks = marks; verdict = verdict })
          (parts_are ∙ ap (λ (n : Moment). listed (named_turned N n)) fourth ∙ ap listed parts_turned_after)
          flows_are
          (potentials_are ∙ ap (λ (n : Moment). taken r.potentials n.potentials) is_m₁)
          (marks_are ∙ ap (λ (n : Moment). taken r.marks n.cut) (is_m₂ ∙ ap (λ (n : Moment). record n { potentials = exchanged r.potentials n.potentials }) is_m₁))
          (verdict_is ∙ ap (λ (n : Moment). n.verdict) third)
