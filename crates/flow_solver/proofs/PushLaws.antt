-- Pushes and excesses in tables, in the words of minimum-cost flows.
use Rattle.std.proofs.Common.{◌≡◌, ℕ, zero, suc, ℤ, pos, negsuc, neg_ℤ, ◌+ℤ◌, ◌-ℤ◌, ◌≤ℤ◌, List, [], ◌∷◌, length, refl, ap, ◌∙◌, inl, inr, arith}
use Rattle.std.specs.List.{sum_by}
use Rattle.std.proofs.lemmas.Int.{ints}
use Rattle.std.proofs.lemmas.List.Sums.{sum_by-cons}
use Rattle.dimacs_text.specs.declared.problem.ArcRow.{ArcRow}
use Rattle.network.specs.Flow.{MinCost, IsNode, AllEndsAreNodes, IsLegalFlow, AllWithinBounds, nodes_sum, net, excess, positive_part, total_excess}
use Rattle.network.proofs.Sums.{nodes_sum-le, nodes_sum-same, nodes_sum-zero}
use Rattle.residual_graph.specs.Residual.{number_at}
use Rattle.residual_graph.specs.declared.side.Side.{Side}
use Rattle.residual_graph.specs.declared.side.Side.TheVariants.{Ahead, Behind}
use Rattle.flow_changes.specs.Push.{IsExcess, IsPush, Pushes, part_above_0, left}
use Rattle.cuts.specs.Cut.{amount, lack}
use Rattle.augmentation.specs.Nodes.{held}
use Rattle.cuts.proofs.CutLemmas.{none_above, lack-none}
use Rattle.residual_graph.proofs.NodeNumbers.{AllEndsIn, is_node_or_not}
use Rattle.augmentation.proofs.NodeLemmas.{held_node, held_other, net-none, nodes_sum-first}

-- where something lies in excess or lacks there is a node, so that what is held is its supply
module _ (n : ℕ) (arcs : List ArcRow) (supply : ℕ → ℤ) (ends : AllEndsIn n arcs) where
  held_some : (x : List ℤ) (v : ℕ) → (held n supply v -ℤ net arcs x v ≡ pos 0 → ⊥) → held n supply v ≡ supply v
  held_some x v some = elim (is_node_or_not n v) [
    | inl node ↦ held_node n supply v node
    | inr none ↦ absurd (some (omega (arith, ints, held_other n supply v none, net-none n arcs x v ends none)))
  ]

  push_of : (x y : List ℤ) → IsPush arcs (held n supply) x y → IsPush arcs supply x y
  push_of x y push =
      let source = held_some x push.source (λ e. omega (arith, ints, e, push.at_least_1, push.in_excess)) in
      let target = held_some x push.target (λ e. omega (arith, ints, e, push.at_least_1, push.in_deficit)) in
      record { amount = push.amount; hops = push.hops; source = push.source; target = push.target; at_least_1 = push.at_least_1; path = push.path; simple = push.simple; shift = push.shift; in_excess = omega (arith, ints, push.in_excess, source); in_deficit = omega (arith, ints, push.in_deficit, target) }

  pub pushes_of : (k : ℕ) (x y : List ℤ) → Pushes arcs (held n supply) k x y → Pushes arcs supply k x y
  pushes_of zero x y same = same
  pushes_of (suc k) x y more = (more.0, pushes_of k x more.0 more.1, push_of more.0 y more.2)

-- excess as it is seen ahead, deficit as it is seen behind
abbrev pub seen : Side → ℤ → ℤ
seen Ahead z = z
seen Behind z = neg_ℤ z

amount_seen : (side : Side) (e : List ℤ) → amount side e ≡ sum_by (λ z. part_above_0 (seen side z)) e
amount_seen Ahead e = refl
amount_seen Behind e = refl

part_is : (z : ℤ) → pos (part_above_0 z) ≡ positive_part z
part_is (pos n) = refl
part_is (negsuc n) = refl

-- a sum over a table is that over the nodes, and its first entry
sum_nodes : (f : ℤ → ℕ) (z : ℤ) (e : List ℤ) → pos (sum_by f (z ∷ e)) ≡ pos (f z) +ℤ nodes_sum (length e) (λ v. pos (f (number_at (z ∷ e) v)))
sum_nodes f z [] = omega (arith, ints, sum_by-cons f z [])
sum_nodes f z (y ∷ e) = omega (arith, ints, sum_by-cons f z (y ∷ e), nodes_sum-first (length e) (λ v. pos (f (number_at (z ∷ y ∷ e) v))), sum_nodes f y e)

module _ (I : MinCost) (x e : List ℤ) (is : IsExcess I.arcs (held I.nodes I.supply) x e) where
  pub excess_at : (v : ℕ) → IsNode I v → number_at e v ≡ excess I x v
  excess_at v node = omega (arith, ints, is v, held_node I.nodes I.supply v node)

  pub legal_flow : AllWithinBounds I.arcs x → left e ≡ 0 → lack e ≡ 0 → IsLegalFlow I x
  legal_flow bounds none no_lack = record { bounds = bounds; conserved = λ v node. omega (arith, ints, excess_at v node, none_above e none v, lack-none e no_lack v) }

-- what lies at the roots of a side, in the words of a flow
pub amount_is : (side : Side) (I : MinCost) (x e : List ℤ) → AllEndsAreNodes I → IsExcess I.arcs (held I.nodes I.supply) x e → length e ≡ suc I.nodes → pos (amount side e) ≡ nodes_sum I.nodes (λ v. positive_part (seen side (excess I x v)))
amount_is side I x [] ends is sized = absurd (omega arith)
amount_is side I x (z ∷ e) ends is sized =
    let first : z ≡ pos 0 = omega (arith, ints, is 0, net-none I.nodes I.arcs x 0 ends (λ h. omega (arith, h.0))) in
    let many : length e ≡ I.nodes = omega arith in
    let rest = nodes_sum-same (length e) (λ v. pos (part_above_0 (seen side (number_at (z ∷ e) v)))) (λ v. positive_part (seen side (excess I x v)))
    (λ v node. part_is (seen side (number_at (z ∷ e) v)) ∙ ap (λ (y : ℤ). positive_part (seen side y)) (excess_at I x (z ∷ e) is v (rw many at node))) in
    let sum : pos (amount side (z ∷ e)) ≡ nodes_sum (length e) (λ v. positive_part (seen side (excess I x v))) =
    omega (arith, ints, amount_seen side (z ∷ e), sum_nodes (λ y. part_above_0 (seen side y)) z e, rest, nothing side z first) in
    rw many at sum
  where
    nothing : (side : Side) (z : ℤ) → z ≡ pos 0 → pos (part_above_0 (seen side z)) ≡ pos 0
    nothing Ahead z none = ap (λ (y : ℤ). pos (part_above_0 y)) none
    nothing Behind z none = ap (λ (y : ℤ). pos (part_above_0 (neg_ℤ y))) none

pub left_is : (I : MinCost) (x e : List ℤ) → AllEndsAreNodes I → IsExcess I.arcs (held I.nodes I.supply) x e → length e ≡ suc I.nodes → pos (left e) ≡ total_excess I x
left_is = amount_is Ahead

pub left_at_least_0 : (I : MinCost) (x : List ℤ) → pos 0 ≤ℤ total_excess I x
left_at_least_0 I x =
    let all = nodes_sum-le I.nodes (λ v. pos 0) (λ v. positive_part (excess I x v)) (λ v node. omega (arith, ints, part_is (excess I x v))) in
    omega (arith, ints, all, nodes_sum-zero I.nodes)
