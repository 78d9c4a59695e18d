-- Pushes alter each flow by no more than what they lower the total excess by.
use Rattle.std.proofs.Common.{◌≡◌, ◌≢◌, ◌⊎◌, ℕ, zero, suc, ◌+◌, ◌-◌, ◌<◌, ◌≤◌, ℤ, pos, negsuc, ◌-ℤ◌, ◌+ℤ◌, ◌≤ℤ◌, Bool, List, [], ◌∷◌, length, drop, Some, unsigned_abs, refl, sym, ap, subst, ◌∙◌, inl, inr, arith}
use Rattle.std.specs.Prelude.{slice_index_or, slice_set}
use Rattle.std.specs.List.{All, AllByRecursion}
use Rattle.std.proofs.lemmas.Int.{ints}
use Rattle.std.proofs.lemmas.Bool.{cases_eq, cases_lt}
use Rattle.std.proofs.lemmas.List.{length-append, length-set, get_or-set_other, get_or_append_left, get_or_past, ext_get_or}
use Rattle.std.proofs.lemmas.List.Elements.{All-nil, All-cons, All-head, All-tail, All-weaker}
use Rattle.dimacs_text.specs.declared.problem.ArcRow.{ArcRow}
use Rattle.dimacs_text.specs.declared.command.Edit.{Edit}
use Rattle.dimacs_text.specs.declared.command.Edit.TheVariants.{Cap, Low, Cost, Supply, Add, Close}
use Rattle.network.specs.Flow.{MinCost, IsNode, AllEndsAreNodes, IsLegalFlow, net, nodes_sum, excess, total_excess, positive_part}
use Rattle.network.specs.Flow.{AllWithinBounds}
use Rattle.network.specs.Instance.{Demand, Supplies, Terminals, Sides, Instance, IsLawful, IsLegal, arc_at, kind_of, is_marked, numbered_flow, reduced, reduced_arcs, reduced_flow, return_arc}
use Rattle.network.specs.Instance.{at_node}
use Rattle.network.specs.Edited.{arc_of, units, units_all}
use Rattle.network.proofs.Following.{follows}
use Rattle.dimacs_text.specs.declared.problem.Kind.{Kind}
use Rattle.dimacs_text.specs.declared.problem.Kind.TheVariants.{Min, Max, Asn}
use Rattle.network.proofs.Sums.{nodes_sum-same, nodes_sum-le, nodes_sum-add, nodes_sum-one, nodes_sum-zero}
use Rattle.network.proofs.Reduction.{made, rows_of, reduced_ends, flow_to_reduced, assignment_to_reduced}
use Rattle.residual_graph.specs.declared.residual.ResidualArc.{ResidualArc}
use Rattle.residual_graph.specs.declared.residual.Way.{Way}
use Rattle.residual_graph.specs.declared.residual.Way.TheVariants.{Forward, Backward}
use Rattle.residual_graph.specs.Residual.{number_at, row_at, start_at}
use Rattle.flow_changes.specs.Push.{IsPath, IsPush, IsShift, Pushes, only_at, moved, push_along}
use Rattle.flow_changes.proofs.ChangeLemmas.{apart_of}
use Rattle.flow_changes.proofs.PushLemmas.{AreApart, IsShift-along, at_other, at_same, net-along}
use Rattle.flow_solver.specs.declared.verdict.Verdict.{Verdict}
use Rattle.flow_solver.specs.declared.verdict.Verdict.TheVariants.{Best, Infeasible}
use Rattle.flow_solver.specs.Answer.{IsAnswered, IsVerdict}
use Rattle.flow_solver.specs.Edit.{AreChanges, AreMade, ChangeAllTo, ChangesTo, GoesToNearest, IsAltered, IsChange}
use Rattle.flow_solver.specs.Moment.{IsWellFormed, Moment}
use Rattle.plan_laws.specs.Stability.{IsLeftOut, MovesWithin}
use Rattle.flow_solver.specs.TablesView.{flow_index}
use Rattle.flow_solver.proofs.GroupLemmas.{grown_all, units_one}

-- ---- one push

-- a hop along arc k
record IsOn (hops : List ResidualArc) (k : ℕ) : Type 0 where
  hop : ResidualArc
  is : hop.arc ≡ k
  place : ℕ
  below : place < length hops
  there : slice_index_or hops place hop ≡ hop

-- what is true of every hop is true of it
of_it : (hops : List ResidualArc) (k : ℕ) (on : IsOn hops k) (P : ResidualArc → Type 0) → All P hops → P on.hop
of_it hops k on P all = subst P on.there (all on.place on.hop on.below)

on_or_off : (hops : List ResidualArc) (k : ℕ) → IsOn hops k ⊎ All (λ h. h.arc ≢ k) hops
on_or_off [] k = inr (All-nil (λ h. h.arc ≢ k))
on_or_off (h ∷ hops) k = elim (cases_eq h.arc k) [
  | inl here ↦ inl (record { hop = h; is = here; place = 0; below = omega arith; there = refl })
  | inr other ↦ (elim (on_or_off hops k) [
    | inl on ↦ inl (record { hop = on.hop; is = on.is; place = suc on.place; below = omega (arith, on.below); there = on.there })
    | inr off ↦ inr (All-cons (λ g. g.arc ≢ k) h hops other off)
  ])
]

moved_by : (way : Way) (x y m : ℤ) → pos 1 ≤ℤ m → y ≡ moved way x m → pos (unsigned_abs (y -ℤ x)) ≤ℤ m
moved_by Forward x y m some is = omega (arith, ints)
moved_by Backward x y m some is = omega (arith, ints)

-- no flow is altered by more than the amount
moves_little : (hops : List ResidualArc) (m : ℤ) (x y : List ℤ) → pos 1 ≤ℤ m → IsShift hops m x y → (k : ℕ) → pos (unsigned_abs (number_at y k -ℤ number_at x k)) ≤ℤ m
moves_little hops m x y some shift k = elim (on_or_off hops k) [
  | inl on ↦ (let is = of_it hops k on (λ h. number_at y h.arc ≡ moved h.way (number_at x h.arc) m) shift.on_path in
      subst (λ (j : ℕ). pos (unsigned_abs (number_at y j -ℤ number_at x j)) ≤ℤ m) on.is (moved_by on.hop.way (number_at x on.hop.arc) (number_at y on.hop.arc) m some is))
  | inr off ↦ (let same = shift.elsewhere k off in omega (arith, ints))
]

-- a shift of a path says the whole list
shift_is : (hops : List ResidualArc) (m : ℤ) (x y z : List ℤ) → IsShift hops m x y → IsShift hops m x z → y ≡ z
shift_is hops m x y z first second =
    ext_get_or (pos 0) y z (first.same_length ∙ sym second.same_length) (λ k lt. elim (on_or_off hops k) [
      | inl on ↦ (let is = of_it hops k on (λ h. number_at y h.arc ≡ moved h.way (number_at x h.arc) m) first.on_path in
          let also = of_it hops k on (λ h. number_at z h.arc ≡ moved h.way (number_at x h.arc) m) second.on_path in
          subst (λ (j : ℕ). number_at y j ≡ number_at z j) on.is (is ∙ sym also))
      | inr off ↦ first.elsewhere k off ∙ sym (second.elsewhere k off)
    ])

not_moved : (way : Way) (m : ℤ) → pos 1 ≤ℤ m → pos 0 ≡ moved way (pos 0) m → ⊥
not_moved Forward m some is = omega (arith, ints)
not_moved Backward m some is = omega (arith, ints)

-- a hop along no arc would alter nothing
hop_there : (m : ℤ) (x y : List ℤ) (h : ResidualArc) → pos 1 ≤ℤ m → length y ≡ length x → number_at y h.arc ≡ moved h.way (number_at x h.arc) m → h.arc < length x
hop_there m x y h some sized is = elim (cases_lt h.arc (length x)) [
  | inl lt ↦ lt
  | inr past ↦ absurd (
      let before : number_at x h.arc ≡ pos 0 = get_or_past x h.arc (pos 0) past in
      let after : number_at y h.arc ≡ pos 0 = get_or_past y h.arc (pos 0) (omega (arith, sized)) in
      not_moved h.way m some (sym after ∙ is ∙ ap (λ (z : ℤ). moved h.way z m) before))
]

hops_there : (m : ℤ) (x y : List ℤ) (hops : List ResidualArc) → pos 1 ≤ℤ m → length y ≡ length x → All (λ h. number_at y h.arc ≡ moved h.way (number_at x h.arc) m) hops → All (λ h. h.arc < length x) hops
hops_there m x y hops some sized all =
    All-weaker (λ h. number_at y h.arc ≡ moved h.way (number_at x h.arc) m) (λ h. h.arc < length x) (λ h is. hop_there m x y h some sized is) hops all

end_is_node : (n : ℕ) (arcs : List ArcRow) (k : ℕ) → AllByRecursion (λ arc. ((1 ≤ arc.tail) × (arc.tail ≤ n)) × ((1 ≤ arc.head) × (arc.head ≤ n))) arcs → k < length arcs
    → ((1 ≤ (row_at arcs k).tail) × ((row_at arcs k).tail ≤ n)) × ((1 ≤ (row_at arcs k).head) × ((row_at arcs k).head ≤ n))
end_is_node n [] k ends lt = absurd (omega (arith, lt))
end_is_node n (arc ∷ arcs) zero ends lt = ends.0
end_is_node n (arc ∷ arcs) (suc k) ends lt = end_is_node n arcs k ends.1 (omega (arith, lt))

part_is : (z : ℤ) → (pos 0 ≤ℤ z → positive_part z ≡ z) × (z ≤ℤ pos 0 → positive_part z ≡ pos 0) × (pos 0 ≤ℤ positive_part z)
part_is (pos zero) = (λ h. refl, λ h. refl, omega (arith, ints))
part_is (pos (suc n)) = (λ h. refl, λ h. absurd (omega (arith, ints)), omega (arith, ints))
part_is (negsuc n) = (λ h. absurd (omega (arith, ints)), λ h. refl, omega (arith, ints))

module _ (I : MinCost) (ends : AllEndsAreNodes I) (x y : List ℤ) (sized : length x ≡ length I.arcs) (push : IsPush I.arcs I.supply x y) where
  there : All (λ h. h.arc < length I.arcs) push.hops
  there = subst (λ (n : ℕ). All (λ h. h.arc < n) push.hops) sized (hops_there push.amount x y push.hops push.at_least_1 push.shift.same_length push.shift.on_path)

  apart : AreApart I.arcs push.hops
  apart = apart_of I.arcs push.hops push.source push.target push.path push.simple there

  along : y ≡ push_along push.hops push.amount x
  along = shift_is push.hops push.amount x y (push_along push.hops push.amount x) push.shift (IsShift-along I.arcs push.hops push.amount x sized apart)

  excess_after : (v : ℕ) → excess I y v ≡ (excess I x v -ℤ only_at push.source push.amount v) +ℤ only_at push.target push.amount v
  excess_after v =
      let after = net-along I.arcs push.hops push.amount x push.source push.target v push.path apart sized in
      let same : net I.arcs y v ≡ net I.arcs (push_along push.hops push.amount x) v = ap (λ (z : List ℤ). net I.arcs z v) along in
      omega (arith, ints, after, same)

  differ : push.source ≡ push.target → ⊥
  differ same =
      let is : (I.supply push.source -ℤ net I.arcs x push.source) ≡ (I.supply push.target -ℤ net I.arcs x push.target) = ap (λ (v : ℕ). I.supply v -ℤ net I.arcs x v) same in
      omega (arith, ints, is, push.in_excess, push.in_deficit, push.at_least_1)

  source_node : IsNode I push.source
  source_node = by push.hops push.source push.path there (λ e. differ e)
    where
      by : (hops : List ResidualArc) (u : ℕ) → IsPath I.arcs hops u push.target → All (λ h. h.arc < length I.arcs) hops → (u ≡ push.target → ⊥) → IsNode I u
      by [] u path arcs ne = absurd (ne path)
      by (h ∷ hops) u path arcs ne =
          let both = end_is_node I.nodes I.arcs h.arc ends (All-head (λ g. g.arc < length I.arcs) h hops arcs) in
          subst (IsNode I) path.0 (at h.way both)
        where
          at : (way : Way) → ((1 ≤ (row_at I.arcs h.arc).tail) × ((row_at I.arcs h.arc).tail ≤ I.nodes)) × ((1 ≤ (row_at I.arcs h.arc).head) × ((row_at I.arcs h.arc).head ≤ I.nodes)) → IsNode I (start_at I.arcs h.arc way)
          at Forward both = both.0
          at Backward both = both.1

  -- the part of a node falls by the amount at the source, and rises nowhere
  part_falls : (v : ℕ) → (positive_part (excess I y v) +ℤ only_at push.source push.amount v) ≤ℤ positive_part (excess I x v)
  part_falls v = elim (cases_eq v push.source) [
    | inl here ↦ subst (λ (u : ℕ). (positive_part (excess I y u) +ℤ only_at push.source push.amount u) ≤ℤ positive_part (excess I x u)) (sym here) (
        let after = excess_after push.source in
        let m = at_same push.source push.amount in
        let none = at_other push.target push.amount push.source differ in
        let e = (part_is (excess I x push.source)).0 (omega (arith, ints, push.in_excess, push.at_least_1)) in
        let f = (part_is (excess I y push.source)).0 (omega (arith, ints, push.in_excess, after, m, none)) in
        omega (arith, ints, e, f, after, m, none))
    | inr off ↦ (elim (cases_eq v push.target) [
      | inl here ↦ subst (λ (u : ℕ). (positive_part (excess I y u) +ℤ only_at push.source push.amount u) ≤ℤ positive_part (excess I x u)) (sym here) (
          let after = excess_after push.target in
          let m = at_same push.target push.amount in
          let none = at_other push.source push.amount push.target (λ e. differ (sym e)) in
          let e = (part_is (excess I x push.target)).2 in
          let f = (part_is (excess I y push.target)).1 (omega (arith, ints, push.in_deficit, after, m, none)) in
          omega (arith, ints, e, f, none))
      | inr away ↦ (
          let after = excess_after v in
          let none = at_other push.source push.amount v off in
          let also = at_other push.target push.amount v away in
          let same : excess I y v ≡ excess I x v = omega (arith, ints, after, none, also) in
          let e = ap positive_part same in
          omega (arith, ints, e, none))
    ])
  ]

  -- the total excess falls by the amount
  total_falls : (total_excess I y +ℤ push.amount) ≤ℤ total_excess I x
  total_falls =
      let le = nodes_sum-le I.nodes (λ v. positive_part (excess I y v) +ℤ only_at push.source push.amount v) (λ v. positive_part (excess I x v)) (λ v b. part_falls v) in
      let split = nodes_sum-add I.nodes (λ v. positive_part (excess I y v)) (λ v. only_at push.source push.amount v) in
      let one = nodes_sum-one I.nodes push.source (λ v. push.amount) source_node.0 source_node.1 in
      omega (arith, ints, le, split, one)

-- ---- pushes one after the other

pub pushes-length : (arcs : List ArcRow) (supply : ℕ → ℤ) (n : ℕ) (x y : List ℤ) → Pushes arcs supply n x y → length y ≡ length x
pushes-length arcs supply zero x y same = ap (λ (l : List ℤ). length l) (sym same)
pushes-length arcs supply (suc n) x y more = more.2.shift.same_length ∙ pushes-length arcs supply n x more.0 more.1

pub total_positive : (I : MinCost) (x : List ℤ) → pos 0 ≤ℤ total_excess I x
total_positive I x =
    let none = nodes_sum-zero I.nodes in
    let le = nodes_sum-le I.nodes (λ v. pos 0) (λ v. positive_part (excess I x v)) (λ v b. (part_is (excess I x v)).2) in
    omega (arith, ints, none, le)

pub pushes_move : (I : MinCost) (n : ℕ) (x y : List ℤ) → AllEndsAreNodes I → length x ≡ length I.arcs → Pushes I.arcs I.supply n x y → (k : ℕ)
    → (pos (unsigned_abs (number_at y k -ℤ number_at x k)) +ℤ total_excess I y) ≤ℤ total_excess I x
pushes_move I zero x y ends sized same k =
    let here : number_at y k ≡ number_at x k = ap (λ (l : List ℤ). number_at l k) (sym same) in
    let all : total_excess I y ≡ total_excess I x = ap (total_excess I) (sym same) in
    omega (arith, ints, here, all)
pushes_move I (suc n) x y ends sized more k =
    let z = more.0 in
    let before = pushes_move I n x z ends sized more.1 k in
    let long = pushes-length I.arcs I.supply n x z more.1 ∙ sized in
    let little = moves_little more.2.hops more.2.amount z y more.2.at_least_1 more.2.shift k in
    let falls = total_falls I ends z y long more.2 in
    omega (arith, ints, before, little, falls)

-- ---- an edit

-- where a flow of the reduced instance has that of arc k
abbrev pub place_in : Kind → ℕ → ℕ
place_in Max k = k
place_in Min k = k - 1
place_in Asn k = k - 1

pub place_is : (D : Demand) (k : ℕ) → place_in (kind_of D) k ≡ flow_index D k
place_is (Supplies supplies) k = refl
place_is (Terminals source sink) k = refl
place_is (Sides marks) k = refl

-- the edit is of no arc at this place of a flow
abbrev pub IsElsewhere : Kind → Edit → ℕ → Type 0
IsElsewhere kind edit place = 1 ≤ arc_of edit → place ≢ place_in kind (arc_of edit)

abbrev pub AreElsewhere : Kind → List Edit → ℕ → Type 0
AreElsewhere kind edits place = All (λ edit. IsElsewhere kind edit place) edits

counted_from_1 : (arcs : List ArcRow) (j : ℕ) (row : ArcRow) → arc_at arcs j ≡ Some row → 1 ≤ j
counted_from_1 arcs zero row there = absurd cc
counted_from_1 arcs (suc j) row there = omega arith

kept_set : (J : Instance) (j place : ℕ) (potential : ℕ → ℤ) (x start : List ℤ) → GoesToNearest J j potential x start → (1 ≤ j → place ≢ place_in (kind_of J.demand) j) → number_at start place ≡ number_at x place
kept_set J j place potential x start goes other =
    ap (λ (l : List ℤ). number_at l place) goes.start_is
    ∙ get_or-set_other x (flow_index J.demand j) place goes.flow (pos 0) (λ e. other (counted_from_1 J.arcs j goes.row goes.there) (e ∙ sym (place_is J.demand j)))

kept_elsewhere : (J : Instance) (edit : Edit) (potential : ℕ → ℤ) (x start : List ℤ) (place : ℕ) → IsAltered J edit potential x start → place < length x → IsElsewhere (kind_of J.demand) edit place → number_at start place ≡ number_at x place
kept_elsewhere J (Supply v value) potential x start place altered lt other = ap (λ (l : List ℤ). number_at l place) altered
kept_elsewhere J (Add tail head low cap cost) potential x start place altered lt other =
    ap (λ (l : List ℤ). number_at l place) altered.start_is ∙ get_or_append_left x (altered.flow ∷ []) (pos 0) place lt
kept_elsewhere J (Cap j cap) potential x start place altered lt other = kept_set J j place potential x start altered other
kept_elsewhere J (Low j low) potential x start place altered lt other = kept_set J j place potential x start altered other
kept_elsewhere J (Cost j cost) potential x start place altered lt other = kept_set J j place potential x start altered other
kept_elsewhere J (Close j) potential x start place altered lt other = kept_set J j place potential x start altered other

set_long : (x start : List ℤ) (j place : ℕ) (z : ℤ) → start ≡ slice_set x j z → place < length x → place < length start
set_long x start j place z is lt = let same = ap (λ (l : List ℤ). length l) is ∙ length-set x j z in omega (arith, same)

pub still_there : (J : Instance) (edit : Edit) (potential : ℕ → ℤ) (x start : List ℤ) (place : ℕ) → IsAltered J edit potential x start → place < length x → place < length start
still_there J (Supply v value) potential x start place altered lt = let same = ap (λ (l : List ℤ). length l) altered in omega (arith, same)
still_there J (Add tail head low cap cost) potential x start place altered lt =
    let long = ap (λ (l : List ℤ). length l) altered.start_is ∙ length-append x (altered.flow ∷ []) in omega (arith, long)
still_there J (Cap j cap) potential x start place altered lt = set_long x start _ place altered.flow altered.start_is lt
still_there J (Low j low) potential x start place altered lt = set_long x start _ place altered.flow altered.start_is lt
still_there J (Cost j cost) potential x start place altered lt = set_long x start _ place altered.flow altered.start_is lt
still_there J (Close j) potential x start place altered lt = set_long x start _ place altered.flow altered.start_is lt

-- ---- edits together

pub kind_all : (I J : Instance) (edits : List Edit) (potential : ℕ → ℤ) (x start : List ℤ) → AreMade I edits potential x J start → kind_of J.demand ≡ kind_of I.demand
kind_all I J [] potential x start made = ap (λ (K : Instance). kind_of K.demand) made.0
kind_all I J (edit ∷ edits) potential x start made =
    kind_all made.0 J edits potential made.1 start made.3 ∙ (follows I edit made.0 made.2.after).frame.kind

-- they keep what each keeps
kept_all : (I J : Instance) (edits : List Edit) (potential : ℕ → ℤ) (x start : List ℤ) (place : ℕ) → AreMade I edits potential x J start → place < length x → AreElsewhere (kind_of I.demand) edits place
    → number_at start place ≡ number_at x place
kept_all I J [] potential x start place made lt others = ap (λ (l : List ℤ). number_at l place) made.1
kept_all I J (edit ∷ edits) potential x start place made lt others =
    let kind : kind_of made.0.demand ≡ kind_of I.demand = (follows I edit made.0 made.2.after).frame.kind in
    let others' : AreElsewhere (kind_of made.0.demand) (edit ∷ edits) place = subst (λ (t : Kind). AreElsewhere t (edit ∷ edits) place) (sym kind) others in
    let here = All-head (λ e. IsElsewhere (kind_of made.0.demand) e place) edit edits others' in
    let rest = All-tail (λ e. IsElsewhere (kind_of made.0.demand) e place) edit edits others' in
    kept_all made.0 J edits potential made.1 start place made.3 (still_there made.0 edit potential x made.1 place made.2.altered lt) rest
    ∙ kept_elsewhere made.0 edit potential x made.1 place made.2.altered lt here

-- at a place that no edit is at, the flow moves by no more than the units of the edits and what of what was left to send out
-- is left no more
pub edits_move : (I J : Instance) (edits : List Edit) (potential : ℕ → ℤ) (x y : List ℤ) (n place : ℕ) → IsLawful J → AreChanges I J edits potential x y n → length y ≡ length (reduced J).arcs
    → place < length x → AreElsewhere (kind_of I.demand) edits place
    → (pos (unsigned_abs (number_at y place -ℤ number_at x place)) +ℤ total_excess (reduced J) y) ≤ℤ (total_excess (reduced I) x +ℤ pos (units_all I edits))
edits_move I J edits potential x y n place lawful change sized lt others =
    let start = change.start in
    let long : length start ≡ length (reduced J).arcs = sym (pushes-length (reduced J).arcs (reduced J).supply n start y change.pushes) ∙ sized in
    let moves = pushes_move (reduced J) n start y (reduced_ends J lawful) long change.pushes place in
    let kept = kept_all I J edits potential x start place change.made lt others in
    let same : number_at y place -ℤ number_at start place ≡ number_at y place -ℤ number_at x place = ap (λ (z : ℤ). number_at y place -ℤ z) kept in
    let moves' = rw same at moves in
    let grown = grown_all I J edits potential x start change.made in
    omega (arith, ints, moves', grown)

-- ---- an arc that no edit names

pub other_place : (D : Demand) (edit : Edit) (k : ℕ) → 1 ≤ k → arc_of edit ≢ k → IsElsewhere (kind_of D) edit (flow_index D k)
other_place (Supplies supplies) edit k from other there same = other (omega (arith, from, there, same))
other_place (Terminals source sink) edit k from other there same = other (sym same)
other_place (Sides marks) edit k from other there same = other (omega (arith, from, there, same))

pub place_below : (D : Demand) (arcs : List ArcRow) (k : ℕ) → 1 ≤ k → k ≤ length arcs → flow_index D k < length (reduced_arcs D arcs)
place_below (Supplies supplies) arcs k from to = omega (arith, from, to)
place_below (Terminals source sink) arcs k from to = omega (arith, from, to)
place_below (Sides marks) arcs k from to = omega (arith, from, to)

pub moves_within : (m n : Moment) (edits : List Edit) (pushes k : ℕ) → IsWellFormed m → IsWellFormed n → ChangeAllTo edits m n pushes → IsLeftOut m.instance edits k
    → MovesWithin (total_excess (reduced m.instance) m.flow +ℤ pos (units_all m.instance edits)) k m n
moves_within m n edits pushes k before after change left_out =
    let place = flow_index m.instance.demand k in
    let kinds = kind_all m.instance n.instance edits (at_node m.potentials) m.flow change.start change.made in
    let same : flow_index n.instance.demand k ≡ place = sym (place_is n.instance.demand k) ∙ ap (λ (t : Kind). place_in t k) kinds ∙ place_is m.instance.demand k in
    let there = place_below m.instance.demand m.instance.arcs k left_out.arc.0 left_out.arc.1 in
    let others = All-weaker (λ edit. arc_of edit ≢ k) (λ edit. IsElsewhere (kind_of m.instance.demand) edit place) (λ edit other. other_place m.instance.demand edit k left_out.arc.0 other) edits left_out.unnamed in
    let moves = edits_move m.instance n.instance edits (at_node m.potentials) m.flow n.flow pushes place after.lawful change after.one_flow (omega (arith, there, before.one_flow)) others in
    let within : pos (unsigned_abs (number_at n.flow place -ℤ number_at m.flow place)) ≤ℤ (total_excess (reduced m.instance) m.flow +ℤ pos (units_all m.instance edits)) =
    omega (arith, ints, moves, total_positive (reduced n.instance) n.flow) in
    subst (λ (j : ℕ). pos (unsigned_abs (number_at n.flow j -ℤ number_at m.flow place)) ≤ℤ (total_excess (reduced m.instance) m.flow +ℤ pos (units_all m.instance edits))) (sym same) within

-- ---- from a plan

-- of a legal flow nothing is left to send out
pub none_left : (I : MinCost) (x : List ℤ) → IsLegalFlow I x → total_excess I x ≡ pos 0
none_left I x legal =
    nodes_sum-same I.nodes (λ v. positive_part (excess I x v)) (λ v. pos 0) (λ v b.
    let even : excess I x v ≡ pos 0 = omega (arith, ints, legal.conserved v b) in ap positive_part even)
    ∙ nodes_sum-zero I.nodes

legal_by : (n : ℕ) (D : Demand) (arcs : List ArcRow) (room : ℕ) (x : List ℤ) → IsLawful (made n D arcs room) → x ≡ reduced_flow (made n D arcs room) (numbered_flow D x) → IsLegal (made n D arcs room) (numbered_flow D x)
    → AllWithinBounds (reduced (made n D arcs room)).arcs x → IsLegalFlow (reduced (made n D arcs room)) x
legal_by n (Supplies s) arcs room x lawful is legal within = legal
legal_by n (Terminals source sink) arcs room x lawful is legal within =
    let few : length arcs ≤ 100000 = omega (arith, lawful.count, lawful.room) in
    let flow = drop 1 x in
    let within' : AllWithinBounds (return_arc source sink ∷ arcs) (net arcs flow source ∷ flow) = subst (λ (l : List ℤ). AllWithinBounds (return_arc source sink ∷ arcs) l) is within in
    subst (λ (l : List ℤ). IsLegalFlow (reduced (made n (Terminals source sink) arcs room)) l) (sym is)
    (flow_to_reduced n source sink arcs lawful.demand (rows_of lawful) few flow legal.0 legal.1 within'.0.0)
legal_by n (Sides marks) arcs room x lawful is legal within = assignment_to_reduced (made n (Sides marks) arcs room) marks x (rows_of lawful) legal

pub verdict_legal : (I : Instance) (x : List ℤ) (set : ℕ → Bool) (v : Verdict) (w : ℤ) → v ≡ Best w → IsVerdict v I x set → IsLawful I → AllWithinBounds (reduced I).arcs x → IsLegalFlow (reduced I) x
verdict_legal I x set (Best z) w e is lawful within = legal_by I.nodes I.demand I.arcs I.room x lawful is.reduced_is is.best.legal within
verdict_legal I x set (Infeasible d) w e is lawful within = absurd cc

pub plans_move : (m n : Moment) (edits : List Edit) (pushes k : ℕ) (w : ℤ) → IsAnswered m → IsAnswered n → m.verdict ≡ Best w → ChangeAllTo edits m n pushes → IsLeftOut m.instance edits k
    → MovesWithin (pos (units_all m.instance edits)) k m n
plans_move m n edits pushes k w before after best change left_out =
    let legal = verdict_legal m.instance m.flow (is_marked m.cut) m.verdict w best before.verdict before.sized.lawful before.certified.bounds in
    let moves = moves_within m n edits pushes k before.sized after.sized change left_out in
    omega (arith, ints, moves, none_left (reduced m.instance) m.flow legal)

-- one edit is a group of one
pub as_group : (I J : Instance) (edit : Edit) (potential : ℕ → ℤ) (x y : List ℤ) (n : ℕ) → IsChange I J edit potential x y n → AreChanges I J (edit ∷ []) potential x y n
as_group I J edit potential x y n change = record {
  start = change.start;
  made = (J, change.start, change.made, (refl, refl));
  pushes = change.pushes;
  count = omega (arith, ints, change.count, units_one I edit);
}

pub plan_moves : (m n : Moment) (edit : Edit) (pushes k : ℕ) (w : ℤ) → IsAnswered m → IsAnswered n → m.verdict ≡ Best w → ChangesTo edit m n pushes → IsLeftOut m.instance (edit ∷ []) k
    → MovesWithin (pos (units m.instance edit)) k m n
plan_moves m n edit pushes k w before after best change left_out =
    let moves = plans_move m n (edit ∷ []) pushes k w before after best (as_group m.instance n.instance edit (at_node m.potentials) m.flow n.flow pushes change) left_out in
    subst (λ (u : ℕ). MovesWithin (pos u) k m n) (units_one m.instance edit) moves
