-- The printing of a best moment is read as a right answer.
use Rattle.std.proofs.Common.{◌≡◌, ℕ, suc, ◌+◌, ◌-◌, ◌*◌, ◌<◌, ◌≤◌, ◌^◌, true, Ok, ℤ, pos, negsuc, ◌*ℤ◌, ◌≤ℤ◌, List, [], ◌∷◌, ◌++◌, length, get_or, unsigned_abs, append_assoc, refl, sym, ap, subst, ◌∙◌, arith}
use Rattle.std.proofs.lemmas.Int.{ints}
use Rattle.std.specs.List.{AllZip, AllByRecursion}
use Rattle.dimacs_io.specs.Line.{value_line, flow_line}
use Rattle.dimacs_text.specs.Reading.{ProblemValue}
use Rattle.dimacs_text.specs.Lawful.{IsLawfulRow}
use Rattle.answer_text.specs.declared.answer.FlowLine.{FlowLine}
use Rattle.answer_text.specs.declared.answer.Answer.{Answer}
use Rattle.answer_text.specs.declared.answer.Answer.TheVariants.{Flow}
use Rattle.dimacs_text.specs.declared.problem.ArcRow.{ArcRow}
use Rattle.dimacs_text.specs.declared.problem.TheConstants.{CAP_LIMIT, COST_LIMIT}
use Rattle.answer_text.specs.Answer.{answers}
use Rattle.network.specs.Flow.{net, flow_sum, AllWithinBounds, IsCertifiedFlow, IsPotential}
use Rattle.network.specs.Instance.{Demand, Supplies, Terminals, Sides, Instance, IsLawful, ArcFits, IsLegalBy, IsCertified, IsBestAnswer, at_node, is_marked, first, numbered_flow, reduced, worth_by}
use Rattle.network.proofs.Reduction.{rows_of}
use Rattle.network.proofs.Answering.{costs_small}
use Rattle.network.proofs.RunningSums.{abs-add}
use Rattle.flow_solver.specs.Moment.{Moment}
use Rattle.flow_solver.specs.Answer.{IsAnswered, IsVerdict, IsBestMoment}
use Rattle.flow_solver.specs.declared.verdict.Verdict.{Verdict}
use Rattle.flow_solver.specs.declared.verdict.Verdict.TheVariants.{Best}
use Rattle.checker.specs.Check.{IsRight, NameEnds, flow_of_lines}
use Rattle.engines.specs.Printing.{flow_lines, potential_lines, solution, solution_by}
use Rattle.answer_laws.specs.Text.{FlowsFit, PotentialsFit, written, written_flows}
use Rattle.answer_laws.proofs.Read.{written_read}

-- ---- the lines

lines : List ArcRow → List ℤ → List FlowLine
lines [] flow = []
lines (arc ∷ arcs) [] = []
lines (arc ∷ arcs) (x ∷ flow) = record { tail = arc.tail; head = arc.head; flow = x } ∷ lines arcs flow

lines_text : (arcs : List ArcRow) (flow : List ℤ) → flow_lines arcs flow ≡ written_flows (lines arcs flow)
unfolding lines
lines_text [] flow = refl
lines_text (arc ∷ arcs) [] = refl
lines_text (arc ∷ arcs) (x ∷ flow) = ap (λ (t : List ℕ). flow_line arc.tail arc.head x ++ t) (lines_text arcs flow)

lines_count : (arcs : List ArcRow) (flow : List ℤ) → AllWithinBounds arcs flow → length (lines arcs flow) ≡ length arcs
unfolding lines
lines_count [] flow within = refl
lines_count (arc ∷ arcs) [] within = absurd within
lines_count (arc ∷ arcs) (x ∷ flow) within = omega (arith, lines_count arcs flow within.1)

flow_count : (arcs : List ArcRow) (flow : List ℤ) → AllWithinBounds arcs flow → length flow ≡ length arcs
flow_count [] [] within = refl
flow_count [] (x ∷ flow) within = absurd within
flow_count (arc ∷ arcs) [] within = absurd within
flow_count (arc ∷ arcs) (x ∷ flow) within = omega (arith, flow_count arcs flow within.1)

lines_flow : (arcs : List ArcRow) (flow : List ℤ) → AllWithinBounds arcs flow → flow_of_lines (lines arcs flow) ≡ flow
unfolding lines
lines_flow [] [] within = refl
lines_flow [] (x ∷ flow) within = absurd within
lines_flow (arc ∷ arcs) [] within = absurd within
lines_flow (arc ∷ arcs) (x ∷ flow) within = ap (λ (xs : List ℤ). x ∷ xs) (lines_flow arcs flow within.1)

lines_ends : (arcs : List ArcRow) (flow : List ℤ) → AllWithinBounds arcs flow → NameEnds arcs (lines arcs flow)
unfolding lines
lines_ends [] flow within = tt
lines_ends (arc ∷ arcs) [] within = absurd within
lines_ends (arc ∷ arcs) (x ∷ flow) within = (record { tail = refl; head = refl }, lines_ends arcs flow within.1)

whole : (x cap : ℤ) → pos 0 ≤ℤ x → x ≤ℤ cap → cap ≤ℤ pos 1000000000 → (n : ℕ) × (x ≡ pos n) × (n < 10 ^ 18)
whole (pos n) cap low high limit = (n, refl, omega (arith, ints, high, limit))
whole (negsuc n) cap low high limit = absurd (omega (arith, ints, low))

lines_fit : (nodes : ℕ) (D : Demand) (arcs : List ArcRow) (flow : List ℤ) → AllByRecursion (λ arc. IsLawfulRow nodes arc × ArcFits D arc) arcs → AllWithinBounds arcs flow → FlowsFit nodes (lines arcs flow)
unfolding lines
lines_fit nodes D [] flow rows within = tt
lines_fit nodes D (arc ∷ arcs) [] rows within = absurd within
lines_fit nodes D (arc ∷ arcs) (x ∷ flow) rows within =
    let row = rows.0.0 in
    ((row.tail, row.head, whole x arc.cap (omega (arith, ints, row.low, within.0.0)) within.0.1 row.limit), lines_fit nodes D arcs flow rows.1 within.1)

potentials_fit : (ps : List ℤ) → ((i : ℕ) → i < length ps → unsigned_abs (get_or ps i (pos 0)) < 10 ^ 18) → PotentialsFit ps
potentials_fit [] all = tt
potentials_fit (p ∷ ps) all = (all 0 (omega arith), potentials_fit ps (λ i lt. all (suc i) (omega arith)))

small_potential : (p : ℤ) → IsPotential p → unsigned_abs p < 10 ^ 18
small_potential (pos n) h = omega (arith, ints, h.1)
small_potential (negsuc n) h = omega (arith, ints, h.0)

-- ---- the worth has at most 30 digits

sum_small : (f : ArcRow → ℤ → ℤ) (most : ℕ) (arcs : List ArcRow) (flow : List ℤ) → AllZip (λ arc x. unsigned_abs (f arc x) ≤ most) arcs flow → unsigned_abs (flow_sum f arcs flow) ≤ most * length arcs
sum_small f most [] flow all = omega arith
sum_small f most (arc ∷ arcs) [] all = omega arith
sum_small f most (arc ∷ arcs) (x ∷ flow) all = omega (arith, abs-add (f arc x) (flow_sum f arcs flow), all.0, sum_small f most arcs flow all.1)

worth_small : (n : ℕ) (D : Demand) (arcs : List ArcRow) (room : ℕ) (flow : List ℤ) (p : ℕ → ℤ) → IsLawful (record { nodes = n; demand = D; arcs = arcs; room = room }) → AllWithinBounds arcs flow
    → IsCertified (record { nodes = n; demand = D; arcs = arcs; room = room }) flow p → unsigned_abs (worth_by D arcs flow) < 10 ^ 30
worth_small n (Supplies s) arcs room flow p lawful within certified =
    omega (arith, sum_small (λ arc x. arc.cost *ℤ x) (unsigned_abs COST_LIMIT * CAP_LIMIT) arcs flow (costs_small n (Supplies s) arcs flow (rows_of lawful) within), lawful.count, lawful.room)
worth_small n (Terminals source sink) arcs room flow p lawful within certified = small (net arcs flow source) certified.bounds.0.0 certified.bounds.0.1
  where
    small : (x : ℤ) → pos 0 ≤ℤ x → x ≤ℤ pos 100000000000000 → unsigned_abs x < 10 ^ 30
    small (pos n) low high = omega (arith, ints, high)
    small (negsuc n) low high = absurd (omega (arith, ints, low))
worth_small n (Sides marks) arcs room flow p lawful within certified =
    omega (arith, sum_small (λ arc x. arc.cost *ℤ x) (unsigned_abs COST_LIMIT * CAP_LIMIT) arcs flow (costs_small n (Sides marks) arcs flow (rows_of lawful) within), lawful.count, lawful.room)

numbered_bounds : (D : Demand) (arcs : List ArcRow) (flow : List ℤ) (p : ℕ → ℤ) (n room : ℕ) → IsCertified (record { nodes = n; demand = D; arcs = arcs; room = room }) flow p → AllWithinBounds arcs flow
numbered_bounds (Supplies s) arcs flow p n room certified = certified.bounds
numbered_bounds (Terminals source sink) arcs flow p n room certified = certified.bounds.1
numbered_bounds (Sides marks) arcs flow p n room certified = certified.bounds

-- ---- the printing

text_is : (w : ℤ) (I : Instance) (flow : List ℤ) (ps : List ℤ) → value_line w ++ flow_lines I.arcs flow ++ potential_lines 1 ps ≡ written w (lines I.arcs flow) ps
text_is w I flow ps = rw (lines_text I.arcs flow) (append_assoc (value_line w) (written_flows (lines I.arcs flow)) (potential_lines 1 ps))

-- the room for arcs is no matter of legal flows
without_room : (I : Instance) (room : ℕ) (D : Demand) (flow : List ℤ) → IsLegalBy D (record I { room = room }) flow → IsLegalBy D I flow
without_room I room (Supplies s) flow legal = legal
without_room I room (Terminals source sink) flow legal = legal
without_room I room (Sides marks) flow legal = legal

module _ (problem : ProblemValue) (m : Moment) (w : ℤ) (room : ℕ) (is : m.instance ≡ record (first problem 0) { room = room }) (answered : IsAnswered m) (told : m.verdict ≡ Best w) where
  abbrev I : Instance
  I = record (first problem 0) { room = room }

  abbrev y : List ℤ
  y = numbered_flow I.demand m.flow

  abbrev p : ℕ → ℤ
  p = at_node m.potentials

  lawful : IsLawful I
  lawful = subst (λ (J : Instance). IsLawful J) is answered.sized.lawful

  best : IsBestMoment I m.flow (is_marked m.cut) w
  best =
      let here : IsVerdict m.verdict I m.flow (is_marked m.cut) = subst (λ (J : Instance). IsVerdict m.verdict J m.flow (is_marked m.cut)) is answered.verdict in
      subst (λ (v : Verdict). IsVerdict v I m.flow (is_marked m.cut)) told here

  certified : IsCertified I y p
  certified =
      let here : IsCertifiedFlow (reduced I) m.flow p = subst (λ (J : Instance). IsCertifiedFlow (reduced J) m.flow p) is answered.certified in
      subst (λ (z : List ℤ). IsCertifiedFlow (reduced I) z p) best.reduced_is here

  within : AllWithinBounds I.arcs y
  within = numbered_bounds I.demand I.arcs y p I.nodes I.room certified

  one_a_node : length m.potentials ≡ problem.nodes
  one_a_node = answered.sized.one_potential ∙ ap (λ (J : Instance). J.nodes) is

  small : unsigned_abs w < 10 ^ 30
  small = subst (λ (z : ℤ). unsigned_abs z < 10 ^ 30) (sym best.worth_is) (worth_small I.nodes I.demand I.arcs I.room y p lawful within certified)

  printed : solution true m ≡ written w (lines I.arcs y) m.potentials
  printed =
      ap (λ (v : Verdict). solution_by v true m) told
      ∙ ap (λ (J : Instance). value_line w ++ flow_lines J.arcs (numbered_flow J.demand m.flow) ++ potential_lines 1 m.potentials) is
      ∙ text_is w I y m.potentials

  read : answers problem.nodes (length problem.arcs) (solution true m) ≡ Ok (Flow w (lines I.arcs y) m.potentials)
  read =
      let written_is = written_read problem.nodes w (lines I.arcs y) m.potentials (omega (arith, lawful.nodes.1)) one_a_node small (lines_fit problem.nodes I.demand I.arcs y (rows_of lawful) within)
      (potentials_fit m.potentials (λ i lt. small_potential _ (at i lt))) in
      ap (answers problem.nodes (length problem.arcs)) printed ∙ subst (λ (k : ℕ). answers problem.nodes k (written w (lines I.arcs y) m.potentials) ≡ Ok (Flow w (lines I.arcs y) m.potentials)) (lines_count I.arcs y within) written_is
    where
      at : (i : ℕ) → i < length m.potentials → IsPotential (get_or m.potentials i (pos 0))
      at i lt =
          let place : suc i - 1 ≡ i = omega arith in
          subst (λ (k : ℕ). IsPotential (get_or m.potentials k (pos 0))) place (certified.range (suc i) (omega arith, omega (arith, lt, one_a_node)))

  right : IsRight problem (Flow w (lines I.arcs y) m.potentials)
  right = (
    lines_ends I.arcs y within,
    subst (λ (z : List ℤ). IsBestAnswer (first problem 0) z m.potentials w) (sym (lines_flow I.arcs y within)) (record {
      one_an_arc = flow_count I.arcs y within;
      one_a_node = one_a_node;
      legal = without_room (first problem 0) room I.demand y best.best.legal;
      value_is = best.worth_is;
      certified = certified;
    }),
  )

  pub best_is_right : (a : Answer) × (answers problem.nodes (length problem.arcs) (solution true m) ≡ Ok a) × IsRight problem a
  best_is_right = (Flow w (lines I.arcs y) m.potentials, read, right)
