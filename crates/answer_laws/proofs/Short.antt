-- The printing of an infeasible moment is read as a right answer.
use Rattle.std.proofs.Common.{◌≡◌, ℕ, zero, suc, ◌+◌, ◌-◌, ◌*◌, ◌<◌, ◌≤◌, ◌^◌, Bool, true, false, cond, Ok, inl, inr, ℤ, pos, negsuc, neg_ℤ, ◌≤ℤ◌, ◌<ℤ◌, List, [], ◌∷◌, ◌++◌, length, get_or, set, replicate, append_assoc, length-append, refl, sym, ap, subst, ◌∙◌, arith}
use Rattle.std.proofs.lemmas.Int.{ints}
use Rattle.std.specs.List.{AllByRecursion}
use Rattle.std.proofs.lemmas.List.Elements.{recursion_from_All}
use Rattle.dimacs_text.specs.Reading.{ProblemValue}
use Rattle.dimacs_text.specs.Lawful.{IsLawfulRow, IsWithin}
use Rattle.answer_text.specs.declared.answer.Answer.{Answer}
use Rattle.answer_text.specs.declared.answer.Answer.TheVariants.{Cut}
use Rattle.dimacs_text.specs.declared.problem.ArcRow.{ArcRow}
use Rattle.dimacs_text.specs.declared.problem.TheConstants.{SUPPLY_LIMIT}
use Rattle.answer_text.specs.Answer.{answers}
use Rattle.network.specs.Flow.{MinCost, nodes_sum, arcs_sum, crosses, outside, IsViolatedCut}
use Rattle.network.specs.Instance.{Demand, Supplies, Terminals, Sides, Instance, IsLawful, ArcFits, IsBreach, at_node, is_marked, first, reduced_supply}
use Rattle.network.proofs.Reduction.{rows_of}
use Rattle.flow_solver.specs.Moment.{Moment, VerdictFits}
use Rattle.flow_solver.specs.Answer.{IsAnswered, IsVerdict, IsInfeasibleMoment}
use Rattle.flow_solver.specs.declared.verdict.Verdict.{Verdict}
use Rattle.flow_solver.specs.declared.verdict.Verdict.TheVariants.{Best, Infeasible}
use Rattle.flow_solver.proofs.AnswerLemmas.{verdict_fits}
use Rattle.checker.specs.Check.{IsRight, listed_marks, mark_all}
use Rattle.engines.specs.Printing.{breach_text, solution, solution_by}
use Rattle.answer_laws.specs.Text.{ids_from}
use Rattle.answer_laws.proofs.ReadCut.{cut_read}
use Rattle.answer_laws.proofs.Right.{best_is_right}

-- ---- the marks of the nodes that are listed

set_seam : (xs ys : List Bool) (b : Bool) → set (xs ++ b ∷ ys) (length xs) true ≡ xs ++ true ∷ ys
set_seam [] ys b = refl
set_seam (x ∷ xs) ys b = ap (λ (zs : List Bool). x ∷ zs) (set_seam xs ys b)

marked : (xs ms : List Bool) → mark_all (xs ++ replicate (length ms) false) (ids_from (length xs + 1) ms) ≡ xs ++ ms
marked xs [] = refl
marked xs (true ∷ ms) =
    let at : length xs + 1 - 1 ≡ length xs = omega arith in
    let len : length (xs ++ true ∷ []) ≡ length xs + 1 = length-append xs (true ∷ []) in
    ap (λ (k : ℕ). mark_all (set (xs ++ false ∷ replicate (length ms) false) k true) (ids_from (length xs + 1 + 1) ms)) at
    ∙ ap (λ (zs : List Bool). mark_all zs (ids_from (length xs + 1 + 1) ms)) (set_seam xs (replicate (length ms) false) false ∙ sym (append_assoc xs (true ∷ []) (replicate (length ms) false)))
    ∙ ap (λ (k : ℕ). mark_all (xs ++ true ∷ [] ++ replicate (length ms) false) (ids_from (k + 1) ms)) (sym len)
    ∙ marked (xs ++ true ∷ []) ms ∙ append_assoc xs (true ∷ []) ms
marked xs (false ∷ ms) =
    let len : length (xs ++ false ∷ []) ≡ length xs + 1 = length-append xs (false ∷ []) in
    ap (λ (zs : List Bool). mark_all zs (ids_from (length xs + 1 + 1) ms)) (sym (append_assoc xs (false ∷ []) (replicate (length ms) false)))
    ∙ ap (λ (k : ℕ). mark_all (xs ++ false ∷ [] ++ replicate (length ms) false) (ids_from (k + 1) ms)) (sym len)
    ∙ marked (xs ++ false ∷ []) ms ∙ append_assoc xs (false ∷ []) ms

-- ---- the shortage has at most 18 digits

part : (b : Bool) (z c : ℤ) (m : ℕ) → pos 0 ≤ℤ z → z ≤ℤ pos m → (pos 0 ≤ℤ cond b z (pos 0)) × (cond b z (pos 0) ≤ℤ pos m)
part true z c m low high = (low, high)
part false z c m low high = (omega (arith, ints), omega (arith, ints))

sums : (f : ArcRow → ℤ) (m : ℕ) (arcs : List ArcRow) → AllByRecursion (λ arc. (pos 0 ≤ℤ f arc) × (f arc ≤ℤ pos m)) arcs → (pos 0 ≤ℤ arcs_sum f arcs) × (arcs_sum f arcs ≤ℤ pos (m * length arcs))
sums f m [] all = (omega (arith, ints), omega (arith, ints))
sums f m (arc ∷ arcs) all =
    let rest = sums f m arcs all.1 in
    (omega (arith, ints, all.0.0, rest.0), omega (arith, ints, all.0.1, rest.1))

module _ (n : ℕ) (D : Demand) (test : ArcRow → Bool) where
  caps : (arcs : List ArcRow) → AllByRecursion (λ arc. IsLawfulRow n arc × ArcFits D arc) arcs → AllByRecursion (λ arc. (pos 0 ≤ℤ cond (test arc) arc.cap (pos 0)) × (cond (test arc) arc.cap (pos 0) ≤ℤ pos 1000000000)) arcs
  caps [] rows = tt
  caps (arc ∷ arcs) rows = let row = rows.0.0 in (part (test arc) arc.cap arc.cap 1000000000 (omega (arith, ints, row.low, row.cap)) row.limit, caps arcs rows.1)

  lows : (arcs : List ArcRow) → AllByRecursion (λ arc. IsLawfulRow n arc × ArcFits D arc) arcs → AllByRecursion (λ arc. (pos 0 ≤ℤ cond (test arc) arc.low (pos 0)) × (cond (test arc) arc.low (pos 0) ≤ℤ pos 1000000000)) arcs
  lows [] rows = tt
  lows (arc ∷ arcs) rows = let row = rows.0.0 in (part (test arc) arc.low arc.low 1000000000 row.low (omega (arith, ints, row.cap, row.limit)), lows arcs rows.1)

cond_within : (b : Bool) (z : ℤ) → neg_ℤ (pos 1000000000) ≤ℤ z → z ≤ℤ pos 1000000000 → (neg_ℤ (pos 1000000000) ≤ℤ cond b z (pos 0)) × (cond b z (pos 0) ≤ℤ pos 1000000000)
cond_within true z low high = (low, high)
cond_within false z low high = (omega (arith, ints), omega (arith, ints))

supplies_within : (n : ℕ) (f : ℕ → ℤ) (set : ℕ → Bool) → ((v : ℕ) → (neg_ℤ (pos 1000000000) ≤ℤ f v) × (f v ≤ℤ pos 1000000000))
    → (neg_ℤ (pos (1000000000 * n)) ≤ℤ nodes_sum n (λ v. cond (set v) (f v) (pos 0))) × (nodes_sum n (λ v. cond (set v) (f v) (pos 0)) ≤ℤ pos (1000000000 * n))
supplies_within zero f set all = (omega (arith, ints), omega (arith, ints))
supplies_within (suc n) f set all =
    let rest = supplies_within n f set all in
    let here = cond_within (set (suc n)) (f (suc n)) (all (suc n)).0 (all (suc n)).1 in
    (omega (arith, ints, rest.0, here.0), omega (arith, ints, rest.1, here.1))

small_of : (d : ℤ) → pos 0 <ℤ d → d ≤ℤ pos 200000000000000 → (k : ℕ) × (d ≡ pos k) × (k < 10 ^ 18)
small_of (pos k) low high = (k, refl, omega (arith, ints, high))
small_of (negsuc k) low high = absurd (omega (arith, ints, low))

abbrev plain_cost : ℕ → (ℕ → ℤ) → List ArcRow → MinCost
plain_cost n supply arcs = record { nodes = n; supply = supply; arcs = arcs }

shortage_small : (n : ℕ) (D : Demand) (supply : ℕ → ℤ) (arcs : List ArcRow) (set : ℕ → Bool) (d : ℤ) → n ≤ 50000 → length arcs ≤ 100000 → AllByRecursion (λ arc. IsLawfulRow n arc × ArcFits D arc) arcs
    → ((v : ℕ) → (neg_ℤ (pos 1000000000) ≤ℤ supply v) × (supply v ≤ℤ pos 1000000000)) → IsViolatedCut (plain_cost n supply arcs) set d → (k : ℕ) × (d ≡ pos k) × (k < 10 ^ 18)
shortage_small n D supply arcs set d nodes few rows supplies cut =
    let s = supplies_within n supply set supplies in
    let a = sums (λ arc. cond (crosses set (outside set) arc) arc.cap (pos 0)) 1000000000 arcs (caps n D (crosses set (outside set)) arcs rows) in
    let b = sums (λ arc. cond (crosses (outside set) set arc) arc.cap (pos 0)) 1000000000 arcs (caps n D (crosses (outside set) set) arcs rows) in
    let c = sums (λ arc. cond (crosses set (outside set) arc) arc.low (pos 0)) 1000000000 arcs (lows n D (crosses set (outside set)) arcs rows) in
    let e = sums (λ arc. cond (crosses (outside set) set arc) arc.low (pos 0)) 1000000000 arcs (lows n D (crosses (outside set) set) arcs rows) in
    small_of d cut.positive (elim cut.value [ inl is ↦ omega (arith, ints, is, s.1, a.0, e.1, nodes, few) | inr is ↦ omega (arith, ints, is, s.0, b.0, c.1, nodes, few) ])

within_at : (s : List ℤ) → AllByRecursion (IsWithin SUPPLY_LIMIT) s → (k : ℕ) → (neg_ℤ (pos 1000000000) ≤ℤ get_or s k (pos 0)) × (get_or s k (pos 0) ≤ℤ pos 1000000000)
within_at [] all k = (omega (arith, ints), omega (arith, ints))
within_at (z ∷ s) all zero = all.0
within_at (z ∷ s) all (suc k) = within_at s all.1 k

unit_within : (b : Bool) → (neg_ℤ (pos 1000000000) ≤ℤ cond b (pos 1) (neg_ℤ (pos 1))) × (cond b (pos 1) (neg_ℤ (pos 1)) ≤ℤ pos 1000000000)
unit_within true = (omega (arith, ints), omega (arith, ints))
unit_within false = (omega (arith, ints), omega (arith, ints))

by_demand : (n : ℕ) (D : Demand) (arcs : List ArcRow) (room : ℕ) (set : ℕ → Bool) (d : ℤ) → IsLawful (record { nodes = n; demand = D; arcs = arcs; room = room }) → VerdictFits D (Infeasible d)
    → IsBreach (record { nodes = n; demand = D; arcs = arcs; room = room }) set d → (k : ℕ) × (d ≡ pos k) × (k < 10 ^ 18)
by_demand n (Supplies s) arcs room set d lawful fits breach =
    shortage_small n (Supplies s) (at_node s) arcs set d (omega (arith, lawful.nodes.1)) (omega (arith, lawful.count, lawful.room)) (rows_of lawful)
    (λ v. within_at s (recursion_from_All (IsWithin SUPPLY_LIMIT) s lawful.demand.1) (v - 1)) breach
by_demand n (Terminals source sink) arcs room set d lawful fits breach = absurd fits
by_demand n (Sides marks) arcs room set d lawful fits breach =
    shortage_small n (Sides marks) (reduced_supply (Sides marks)) arcs set d (omega (arith, lawful.nodes.1)) (omega (arith, lawful.count, lawful.room)) (rows_of lawful)
    (λ v. unit_within (is_marked marks v)) breach

module _ (problem : ProblemValue) (m : Moment) (d : ℤ) (room : ℕ) (is : m.instance ≡ record (first problem 0) { room = room }) (answered : IsAnswered m) (told : m.verdict ≡ Infeasible d) where
  abbrev I : Instance
  I = record (first problem 0) { room = room }

  lawful : IsLawful I
  lawful = subst (λ (J : Instance). IsLawful J) is answered.sized.lawful

  none : IsInfeasibleMoment I (is_marked m.cut) d
  none =
      let here : IsVerdict m.verdict I m.flow (is_marked m.cut) = subst (λ (J : Instance). IsVerdict m.verdict J m.flow (is_marked m.cut)) is answered.verdict in
      subst (λ (v : Verdict). IsVerdict v I m.flow (is_marked m.cut)) told here

  fits : VerdictFits I.demand (Infeasible d)
  fits = subst (λ (v : Verdict). VerdictFits I.demand v) told (subst (λ (J : Instance). VerdictFits J.demand m.verdict) is (verdict_fits m answered))

  small : (k : ℕ) × (d ≡ pos k) × (k < 10 ^ 18)
  small = by_demand I.nodes I.demand I.arcs I.room (is_marked m.cut) d lawful fits none.breach

  one_a_node : length m.cut ≡ problem.nodes
  one_a_node = answered.sized.one_mark ∙ ap (λ (J : Instance). J.nodes) is

  marks_are : listed_marks problem.nodes (ids_from 1 m.cut) ≡ m.cut
  marks_are = ap (λ (n : ℕ). mark_all (replicate n false) (ids_from 1 m.cut)) (sym one_a_node) ∙ marked [] m.cut

  printed : solution true m ≡ breach_text d m.cut
  printed = ap (λ (v : Verdict). solution_by v true m) told

  pub cut_is_right : (a : Answer) × (answers problem.nodes (length problem.arcs) (solution true m) ≡ Ok a) × IsRight problem a
  cut_is_right = (
    Cut (pos small.0) (ids_from 1 m.cut),
    ap (answers problem.nodes (length problem.arcs)) (printed ∙ ap (λ (z : ℤ). breach_text z m.cut) small.1) ∙ cut_read problem.nodes (length problem.arcs) small.0 m.cut (omega (arith, lawful.nodes.1)) one_a_node small.2,
    record {
      one_a_node = ap length marks_are ∙ one_a_node;
      breach = subst (λ (c : List Bool). IsBreach I (is_marked c) (pos small.0)) (sym marks_are) (subst (λ (z : ℤ). IsBreach I (is_marked m.cut) z) small.1 none.breach);
    },
  )

by_verdict : (problem : ProblemValue) (m : Moment) (v : Verdict) (room : ℕ) → m.instance ≡ record (first problem 0) { room = room } → IsAnswered m → m.verdict ≡ v
    → (a : Answer) × (answers problem.nodes (length problem.arcs) (solution true m) ≡ Ok a) × IsRight problem a
by_verdict problem m (Best w) room is answered told = best_is_right problem m w room is answered told
by_verdict problem m (Infeasible d) room is answered told = cut_is_right problem m d room is answered told

pub shown_is_right : (problem : ProblemValue) (m : Moment) (room : ℕ) → m.instance ≡ record (first problem 0) { room = room } → IsAnswered m
    → (a : Answer) × (answers problem.nodes (length problem.arcs) (solution true m) ≡ Ok a) × IsRight problem a
shown_is_right problem m room is answered = by_verdict problem m m.verdict room is answered refl
