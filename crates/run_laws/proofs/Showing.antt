-- Moments that answer one instance show the same.
use Rattle.std.proofs.Common.{◌≡◌, ℕ, ℤ, Bool, List, [], ◌∷◌, ◌++◌, append_assoc, refl, sym, ap, subst, ◌∙◌}
use Rattle.std.specs.Prelude.{if◌then◌else◌}
use Rattle.dimacs_io.specs.Line.{value_line}
use Rattle.dimacs_text.specs.declared.problem.ArcRow.{ArcRow}
use Rattle.network.specs.Flow.{AllWithinBounds}
use Rattle.network.specs.Instance.{Demand, Supplies, Terminals, Sides, Instance, IsBest, is_marked, numbered_flow, reduced_arcs}
use Rattle.flow_solver.specs.Moment.{Moment}
use Rattle.flow_solver.specs.Answer.{IsAnswered, IsVerdict}
use Rattle.flow_solver.specs.declared.verdict.Verdict.{Verdict}
use Rattle.flow_solver.specs.declared.verdict.Verdict.TheVariants.{Best, Infeasible}
use Rattle.engines.specs.Printing.{outcome_line, solution, solution_by, cut_lines, flow_lines, potential_lines, breach_text}
use Rattle.run_laws.specs.Alike.{HasOneBest}
use Rattle.run_laws.specs.Texts.{DifferInFlows}
use Rattle.run_laws.proofs.Agreeing.{from_room, same_verdict, same_cut, same_potentials, to_room}
use Rattle.run_laws.proofs.Pieces.{same, same_by, together, flows_alike}

numbered_within : (D : Demand) (arcs : List ArcRow) (flow : List ℤ) → AllWithinBounds (reduced_arcs D arcs) flow → AllWithinBounds arcs (numbered_flow D flow)
numbered_within (Supplies supplies) arcs flow within = within
numbered_within (Terminals source sink) arcs [] within = absurd within
numbered_within (Terminals source sink) arcs (x ∷ flow) within = within.1
numbered_within (Sides marks) arcs flow within = within

-- what follows the flow lines
abbrev proof_lines : Bool → List ℤ → List ℕ
proof_lines proof potentials = if proof then potential_lines 1 potentials else []

abbrev best_lines : Bool → ℤ → Instance → List ℤ → List ℤ → List ℕ
best_lines proof worth I flow potentials = value_line worth ++ flow_lines I.arcs (numbered_flow I.demand flow) ++ proof_lines proof potentials

-- the two solutions of moments that answer one instance, by the lists that they show
module _ (proof : Bool) (a b : Moment) (room : ℕ) (is : b.instance ≡ record a.instance { room = room }) (A : IsAnswered a) (B : IsAnswered b) where
  module _ (w : ℤ) (told : a.verdict ≡ Best w) where
    other_told : b.verdict ≡ Best w
    other_told = same_verdict a b room is A B ∙ told

    text_is : solution proof a ≡ best_lines proof w a.instance a.flow a.potentials
    text_is = ap (λ (v : Verdict). solution_by v proof a) told

    other_is : solution proof b ≡ best_lines proof w a.instance b.flow a.potentials
    other_is =
        ap (λ (v : Verdict). solution_by v proof b) other_told
        ∙ ap (λ (J : Instance). best_lines proof w J b.flow b.potentials) is
        ∙ ap (λ (ps : List ℤ). best_lines proof w a.instance b.flow ps) (same_potentials a b room w is told A B)

    plans_alike : DifferInFlows (solution proof a) (solution proof b)
    plans_alike =
        let within = numbered_within a.instance.demand a.instance.arcs a.flow A.certified.bounds in
        let other_within : AllWithinBounds a.instance.arcs (numbered_flow a.instance.demand b.flow) =
        subst (λ (J : Instance). AllWithinBounds J.arcs (numbered_flow J.demand b.flow)) is (numbered_within b.instance.demand b.instance.arcs b.flow B.certified.bounds) in
        let flows = flows_alike a.instance.arcs (numbered_flow a.instance.demand a.flow) (numbered_flow a.instance.demand b.flow) within other_within in
        let front = together (value_line w) (value_line w) (flow_lines a.instance.arcs (numbered_flow a.instance.demand a.flow)) (flow_lines a.instance.arcs (numbered_flow a.instance.demand b.flow)) (same (value_line w)) flows in
        let whole : DifferInFlows (best_lines proof w a.instance a.flow a.potentials) (best_lines proof w a.instance b.flow a.potentials) =
        together (value_line w ++ flow_lines a.instance.arcs (numbered_flow a.instance.demand a.flow)) (value_line w ++ flow_lines a.instance.arcs (numbered_flow a.instance.demand b.flow))
        (proof_lines proof a.potentials) (proof_lines proof a.potentials) front (same (proof_lines proof a.potentials)) in
        subst (λ (x : List ℕ). DifferInFlows x (solution proof b)) (sym text_is) (subst (λ (y : List ℕ). DifferInFlows (best_lines proof w a.instance a.flow a.potentials) y) (sym other_is) whole)

    one_best : IsBest a.instance (numbered_flow a.instance.demand a.flow)
    one_best = (subst (λ (v : Verdict). IsVerdict v a.instance a.flow (is_marked a.cut)) told A.verdict).best

    other_best : IsBest a.instance (numbered_flow a.instance.demand b.flow)
    other_best =
        let flow = numbered_flow a.instance.demand b.flow in
        let verdict = subst (λ (v : Verdict). IsVerdict v b.instance b.flow (is_marked b.cut)) other_told B.verdict in
        let best = (subst (λ (J : Instance). IsVerdict (Best w) J b.flow (is_marked b.cut)) is verdict).best in
        record {
          legal = from_room a.instance room a.instance.demand flow best.legal;
          best = λ other legal. best.best other (to_room a.instance room a.instance.demand other legal);
        }

    plans_same : HasOneBest a.instance → solution proof b ≡ solution proof a
    plans_same one =
        let flows = one (numbered_flow a.instance.demand a.flow) (numbered_flow a.instance.demand b.flow) one_best other_best in
        other_is ∙ ap (λ (flow : List ℤ). value_line w ++ flow_lines a.instance.arcs flow ++ proof_lines proof a.potentials) flows ∙ sym text_is

  cuts_same : (d : ℤ) → a.verdict ≡ Infeasible d → solution proof b ≡ solution proof a
  cuts_same d told =
      ap (λ (v : Verdict). solution_by v proof b) (same_verdict a b room is A B ∙ told)
      ∙ ap (breach_text d) (same_cut a b room is A B)
      ∙ sym (ap (λ (v : Verdict). solution_by v proof a) told)

  by_verdict : (v : Verdict) → a.verdict ≡ v → DifferInFlows (solution proof a) (solution proof b)
  by_verdict (Best w) told = plans_alike w told
  by_verdict (Infeasible d) told = same_by (solution proof a) (solution proof b) (cuts_same d told)

  one_by_verdict : (v : Verdict) → a.verdict ≡ v → HasOneBest a.instance → solution proof b ≡ solution proof a
  one_by_verdict (Best w) told one = plans_same w told one
  one_by_verdict (Infeasible d) told one = cuts_same d told

  pub shown_alike : DifferInFlows (solution proof a) (solution proof b)
  shown_alike = by_verdict a.verdict refl

  pub shown_the_same : HasOneBest a.instance → solution proof b ≡ solution proof a
  shown_the_same one = one_by_verdict a.verdict refl one

-- the solution begins with the outcome
begins_by : (v : Verdict) (proof : Bool) (m : Moment) → (rest : List ℕ) × (solution_by v proof m ≡ outcome_line v ++ rest)
begins_by (Best w) proof m = (flow_lines m.instance.arcs (numbered_flow m.instance.demand m.flow) ++ proof_lines proof m.potentials, append_assoc (value_line w) (flow_lines m.instance.arcs (numbered_flow m.instance.demand m.flow)) (proof_lines proof m.potentials))
begins_by (Infeasible d) proof m = (cut_lines 1 m.cut, refl)

pub begins : (proof : Bool) (m : Moment) → (rest : List ℕ) × (solution proof m ≡ outcome_line m.verdict ++ rest)
begins proof m = begins_by m.verdict proof m
