-- Where a set of nodes is a breach, no legal flow exists.
use Rattle.std.proofs.Common.{◌≡◌, ℕ, ℤ, pos, ◌-ℤ◌, ◌*ℤ◌, ◌≤ℤ◌, inl, inr, Bool, true, false, not, ◌&&◌, if◌then◌else◌, List, [], ◌∷◌, sym, ap, ◌∙◌, arith}
use Rattle.std.proofs.lemmas.Int.{ints}
use Rattle.dimacs_text.specs.declared.problem.ArcRow.{ArcRow}
use Rattle.network.specs.Flow.{arcs_sum, flow_sum, nodes_sum, MinCost, AllEndsAreNodes, net, AllWithinBounds, IsLegalFlow, supply_of, crosses, outside, IsViolatedCut}
use Rattle.network.proofs.IntegerAlgebra.{linear}
use Rattle.network.proofs.Sums.{nodes_sum-same}
use Rattle.network.proofs.Balance.{balance}

-- 1 in the set and 0 outside
abbrev pub weight : (ℕ → Bool) → ℕ → ℤ
weight set v = if set v then pos 1 else pos 0

-- the flow out of the set less the flow into it
abbrev pub flow_across : (ℕ → Bool) → List ArcRow → List ℤ → ℤ
flow_across set = flow_sum (λ arc x. (weight set arc.tail -ℤ weight set arc.head) *ℤ x)

if_times : (b : Bool) (x : ℤ) → (if b then x else pos 0) ≡ (if b then pos 1 else pos 0) *ℤ x
if_times true x = omega (arith, ints)
if_times false x = omega (arith, ints)

pub nodes_sum-across : (I : MinCost) (set : ℕ → Bool) (flow : List ℤ) → AllEndsAreNodes I
    → nodes_sum I.nodes (λ v. if set v then net I.arcs flow v else pos 0) ≡ flow_across set I.arcs flow
nodes_sum-across I set flow ends =
    nodes_sum-same I.nodes _ _ (λ v b. if_times (set v) (net I.arcs flow v)) ∙ balance I.nodes (weight set) I.arcs flow ends

-- one arc between its bounds, by where its ends lie
pub arc_across : (low cap x : ℤ) (tail head : Bool) → low ≤ℤ x → x ≤ℤ cap
    → (((if tail && not head then low else pos 0) -ℤ (if not tail && head then cap else pos 0)) ≤ℤ (((if tail then pos 1 else pos 0) -ℤ (if head then pos 1 else pos 0)) *ℤ x))
    × ((((if tail then pos 1 else pos 0) -ℤ (if head then pos 1 else pos 0)) *ℤ x) ≤ℤ ((if tail && not head then cap else pos 0) -ℤ (if not tail && head then low else pos 0)))
arc_across low cap x true true h k = (omega (arith, ints), omega (arith, ints))
arc_across low cap x true false h k = (omega (arith, ints), omega (arith, ints))
arc_across low cap x false true h k = (omega (arith, ints), omega (arith, ints))
arc_across low cap x false false h k = (omega (arith, ints), omega (arith, ints))

abbrev pub caps : (ℕ → Bool) → (ℕ → Bool) → List ArcRow → ℤ
caps from to = arcs_sum (λ arc. if crosses from to arc then arc.cap else pos 0)

abbrev pub lows : (ℕ → Bool) → (ℕ → Bool) → List ArcRow → ℤ
lows from to = arcs_sum (λ arc. if crosses from to arc then arc.low else pos 0)

pub flow_across-within : (set : ℕ → Bool) (arcs : List ArcRow) (flow : List ℤ) → AllWithinBounds arcs flow
    → ((lows set (outside set) arcs -ℤ caps (outside set) set arcs) ≤ℤ flow_across set arcs flow)
    × (flow_across set arcs flow ≤ℤ (caps set (outside set) arcs -ℤ lows (outside set) set arcs))
flow_across-within set [] flow bounds = (omega (arith, ints), omega (arith, ints))
flow_across-within set (arc ∷ arcs) [] bounds = absurd bounds
flow_across-within set (arc ∷ arcs) (x ∷ flow) bounds =
    let here = arc_across arc.low arc.cap x (set arc.tail) (set arc.head) bounds.0.0 bounds.0.1 in
    let rest = flow_across-within set arcs flow bounds.1 in
    (omega (arith, linear), omega (arith, linear))

pub no_legal_flow : (I : MinCost) (set : ℕ → Bool) (d : ℤ) → AllEndsAreNodes I → IsViolatedCut I set d → (flow : List ℤ) → IsLegalFlow I flow → ⊥
no_legal_flow I set d ends cut flow legal =
    let same : supply_of I set ≡ flow_across set I.arcs flow =
    nodes_sum-same I.nodes _ _ (λ v b. ap (λ (s : ℤ). if set v then s else pos 0) (sym (legal.conserved v b))) ∙ nodes_sum-across I set flow ends in
    let within = flow_across-within set I.arcs flow legal.bounds in
    let positive = cut.positive in
    elim cut.value [ inl e ↦ omega (arith, linear) | inr e ↦ omega (arith, linear) ]
