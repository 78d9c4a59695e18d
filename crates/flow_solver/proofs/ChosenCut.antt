-- The chosen cut: the nodes that those in excess reach are the least set of the greatest surplus, and the nodes that reach one in deficit that of the greatest shortfall.
use Rattle.std.proofs.Common.{◌≡◌, ℕ, zero, suc, ◌<◌, ℤ, pos, negsuc, neg_ℤ, ◌+ℤ◌, ◌-ℤ◌, ◌*ℤ◌, ◌<ℤ◌, ◌≤ℤ◌, List, [], ◌∷◌, length, refl, sym, ap, ◌∙◌, inl, inr, arith, Bool, true, false, not, ◌&&◌, if◌then◌else◌}
use Rattle.std.proofs.lemmas.Int.{ints, by_lt_z}
use Rattle.std.proofs.lemmas.Bool.{false≢true, true≢false, true_from_ne_false, cases_lt}
use Rattle.dimacs_text.specs.declared.problem.ArcRow.{ArcRow}
use Rattle.network.specs.Flow.{MinCost, IsNode, AllEndsAreNodes, AllWithinBounds, IsWithinBounds, arcs_sum, nodes_sum, excess, positive_part, supply_of, surplus_of, shortfall_of, crosses, outside}
use Rattle.network.proofs.IntegerAlgebra.{linear}
use Rattle.network.proofs.Sums.{nodes_sum-same, nodes_sum-le}
use Rattle.network.proofs.Cuts.{arc_across, flow_across, flow_across-within}
use Rattle.network.proofs.Surplus.{excess_of, excess_of-across}
use Rattle.residual_graph.specs.declared.residual.Way.{Way}
use Rattle.residual_graph.specs.declared.residual.Way.TheVariants.{Forward, Backward}
use Rattle.residual_graph.specs.declared.side.Side.{Side}
use Rattle.residual_graph.specs.declared.side.Side.TheVariants.{Ahead, Behind}
use Rattle.residual_graph.specs.Residual.{IsResidual, number_at, room_of}
use Rattle.residual_graph.specs.Side.{IsRoot}
use Rattle.residual_graph.proofs.NodeNumbers.{IsNodeOf, ends_in, is_node_or_not}
use Rattle.tracked.specs.Marks.{in_set}
use Rattle.cuts.specs.Cut.{AreOnSide, far_at, far_of, near_at, near_of}
use Rattle.flow_changes.specs.Push.{IsExcess}
use Rattle.augmentation.specs.Nodes.{table, held}
use Rattle.augmentation.proofs.NodeLemmas.{table_at, held_other, net-none}
use Rattle.flow_solver.proofs.PushLaws.{excess_at, seen}

seen_less : (side : Side) (a b : ℤ) → seen side (a -ℤ b) ≡ seen side a -ℤ seen side b
seen_less Ahead a b = refl
seen_less Behind a b = omega (arith, ints)

seen_only : (side : Side) (a b : ℤ) → seen side a ≡ seen side b → a ≡ b
seen_only Ahead a b same = same
seen_only Behind a b same = omega (arith, ints, same)

-- ---- what a set can send out, or has to

-- the most that an arc can carry out of a set, and the least into it; behind, the least out of it, and the most into it
abbrev leaving : Side → ArcRow → ℤ
leaving Ahead arc = arc.cap
leaving Behind arc = arc.low

abbrev entering : Side → ArcRow → ℤ
entering Ahead arc = arc.low
entering Behind arc = arc.cap

abbrev full_across : Side → (ℕ → Bool) → List ArcRow → ℤ
full_across side set arcs = arcs_sum (λ arc. if crosses set (outside set) arc then leaving side arc else pos 0) arcs -ℤ arcs_sum (λ arc. if crosses (outside set) set arc then entering side arc else pos 0) arcs

abbrev pub value : Side → MinCost → (ℕ → Bool) → ℤ
value Ahead I set = surplus_of I set
value Behind I set = shortfall_of I set

value_is : (side : Side) (I : MinCost) (set : ℕ → Bool) → value side I set ≡ seen side (supply_of I set -ℤ full_across side set I.arcs)
value_is Ahead I set = omega (arith, ints)
value_is Behind I set = omega (arith, ints)

-- what is left at the nodes of a set, and at the roots of a side
abbrev held_in : Side → MinCost → List ℤ → (ℕ → Bool) → ℤ
held_in side I x set = nodes_sum I.nodes (λ v. if set v then seen side (excess I x v) else pos 0)

abbrev pub total : Side → MinCost → List ℤ → ℤ
total side I x = nodes_sum I.nodes (λ v. positive_part (seen side (excess I x v)))

-- ---- one arc

-- it carries out of the set, and into it, what a set of the greatest value has it carry
abbrev IsFull : Side → (ℕ → Bool) → ArcRow → ℤ → Type 0
IsFull side set arc x = (set arc.tail ≡ true → set arc.head ≡ false → x ≡ leaving side arc) × (set arc.head ≡ true → set arc.tail ≡ false → x ≡ entering side arc)

-- no residual arc along it leads on out of the set
abbrev IsShut : Side → (ℕ → Bool) → ArcRow → ℤ → Type 0
IsShut side set arc x = (way : Way) → pos 0 <ℤ room_of arc x way → set (near_of side arc way) ≡ true → set (far_of side arc way) ≡ true

at_cap : (arc : ArcRow) (x : ℤ) → IsWithinBounds arc x → (pos 0 <ℤ room_of arc x Forward → ⊥) → x ≡ arc.cap
at_cap arc x bounds none = by_lt_z x arc.cap (λ lt. absurd (none (omega (arith, ints, lt)))) (λ ge. omega (arith, ints, ge, bounds.1))

at_low : (arc : ArcRow) (x : ℤ) → IsWithinBounds arc x → (pos 0 <ℤ room_of arc x Backward → ⊥) → x ≡ arc.low
at_low arc x bounds none = by_lt_z arc.low x (λ lt. absurd (none (omega (arith, ints, lt)))) (λ ge. omega (arith, ints, ge, bounds.0))

full_if_shut : (side : Side) (set : ℕ → Bool) (arc : ArcRow) (x : ℤ) → IsWithinBounds arc x → IsShut side set arc x → IsFull side set arc x
full_if_shut Ahead set arc x bounds shut = (λ t h. at_cap arc x bounds (λ room. false≢true (sym h ∙ shut Forward room t)), λ h t. at_low arc x bounds (λ room. false≢true (sym t ∙ shut Backward room h)))
full_if_shut Behind set arc x bounds shut = (λ t h. at_low arc x bounds (λ room. false≢true (sym h ∙ shut Backward room t)), λ h t. at_cap arc x bounds (λ room. false≢true (sym t ∙ shut Forward room h)))

shut_if_full : (side : Side) (set : ℕ → Bool) (arc : ArcRow) (x : ℤ) → IsFull side set arc x → IsShut side set arc x
shut_if_full Ahead set arc x full Forward room near = true_from_ne_false (set arc.head) (λ far. omega (arith, ints, room, full.0 near far))
shut_if_full Ahead set arc x full Backward room near = true_from_ne_false (set arc.tail) (λ far. omega (arith, ints, room, full.1 near far))
shut_if_full Behind set arc x full Forward room near = true_from_ne_false (set arc.tail) (λ far. omega (arith, ints, room, full.1 near far))
shut_if_full Behind set arc x full Backward room near = true_from_ne_false (set arc.head) (λ far. omega (arith, ints, room, full.0 near far))

-- what it adds to the flow across the set, and to the most of that
abbrev flow_term : Bool → Bool → ℤ → ℤ
flow_term t h x = ((if t then pos 1 else pos 0) -ℤ (if h then pos 1 else pos 0)) *ℤ x

abbrev full_term : Bool → Bool → ℤ → ℤ → ℤ
full_term t h out into = (if t && not h then out else pos 0) -ℤ (if not t && h then into else pos 0)

term_if_full : (t h : Bool) (x out into : ℤ) → (t ≡ true → h ≡ false → x ≡ out) → (h ≡ true → t ≡ false → x ≡ into) → flow_term t h x ≡ full_term t h out into
term_if_full true true x out into leaves enters = omega (arith, ints)
term_if_full true false x out into leaves enters = omega (arith, ints, leaves refl refl)
term_if_full false true x out into leaves enters = omega (arith, ints, enters refl refl)
term_if_full false false x out into leaves enters = omega (arith, ints)

full_if_term : (t h : Bool) (x out into : ℤ) → flow_term t h x ≡ full_term t h out into → (t ≡ true → h ≡ false → x ≡ out) × (h ≡ true → t ≡ false → x ≡ into)
full_if_term true true x out into same = (λ t h. absurd (true≢false h), λ h t. absurd (true≢false t))
full_if_term true false x out into same = (λ t h. omega (arith, ints, same), λ h t. absurd (false≢true h))
full_if_term false true x out into same = (λ t h. absurd (false≢true t), λ h t. omega (arith, ints, same))
full_if_term false false x out into same = (λ t h. absurd (false≢true t), λ h t. absurd (false≢true h))

-- ---- all arcs

-- no residual arc leads on out of the set
abbrev IsClosedSet : Side → List ArcRow → List ℤ → (ℕ → Bool) → Type 0
IsClosedSet side arcs x set = (k : ℕ) (way : Way) → IsResidual arcs x k way → set (near_at side arcs k way) ≡ true → set (far_at side arcs k way) ≡ true

across_if_closed : (side : Side) (set : ℕ → Bool) (arcs : List ArcRow) (x : List ℤ) → AllWithinBounds arcs x → IsClosedSet side arcs x set → flow_across set arcs x ≡ full_across side set arcs
across_if_closed side set [] [] bounds closed = refl
across_if_closed side set (a ∷ arcs) (y ∷ x) bounds closed =
    let full = full_if_shut side set a y bounds.0 (λ way room. closed 0 way (record { is_arc = omega arith; has_room = room })) in
    let here = term_if_full (set a.tail) (set a.head) y (leaving side a) (entering side a) full.0 full.1 in
    let rest = across_if_closed side set arcs x bounds.1 (λ k way residual. closed (suc k) way (record { is_arc = omega (arith, residual.is_arc); has_room = residual.has_room })) in
    omega (arith, linear)
across_if_closed side set _ _ bounds closed = absurd bounds

-- no more goes across the set, as its side sees it
across_most : (side : Side) (set : ℕ → Bool) (arcs : List ArcRow) (x : List ℤ) → AllWithinBounds arcs x → seen side (flow_across set arcs x) ≤ℤ seen side (full_across side set arcs)
across_most Ahead set arcs x bounds = (flow_across-within set arcs x bounds).1
across_most Behind set arcs x bounds = (let within = (flow_across-within set arcs x bounds).0 in omega (arith, ints, within))

term_most : (side : Side) (set : ℕ → Bool) (a : ArcRow) (y : ℤ) → IsWithinBounds a y → seen side (flow_term (set a.tail) (set a.head) y) ≤ℤ seen side (full_term (set a.tail) (set a.head) (leaving side a) (entering side a))
term_most Ahead set a y bounds = (arc_across a.low a.cap y (set a.tail) (set a.head) bounds.0 bounds.1).1
term_most Behind set a y bounds = (let within = (arc_across a.low a.cap y (set a.tail) (set a.head) bounds.0 bounds.1).0 in omega (arith, ints, within))

-- where two sums are the same, of which no term is above the other's, so are the terms
both_same : (side : Side) (a b c d : ℤ) → seen side a ≤ℤ seen side b → seen side c ≤ℤ seen side d → a +ℤ c ≡ b +ℤ d → (a ≡ b) × (c ≡ d)
both_same Ahead a b c d first second same = (omega (arith, ints, first, second, same), omega (arith, ints, first, second, same))
both_same Behind a b c d first second same = (omega (arith, ints, first, second, same), omega (arith, ints, first, second, same))

across_parts : (side : Side) (set : ℕ → Bool) (a : ArcRow) (arcs : List ArcRow) (y : ℤ) (x : List ℤ) → AllWithinBounds (a ∷ arcs) (y ∷ x) → flow_across set (a ∷ arcs) (y ∷ x) ≡ full_across side set (a ∷ arcs)
    → (flow_term (set a.tail) (set a.head) y ≡ full_term (set a.tail) (set a.head) (leaving side a) (entering side a)) × (flow_across set arcs x ≡ full_across side set arcs)
across_parts side set a arcs y x bounds same =
    both_same side (flow_term (set a.tail) (set a.head) y) (full_term (set a.tail) (set a.head) (leaving side a) (entering side a)) (flow_across set arcs x) (full_across side set arcs) (term_most side set a y bounds.0) (across_most side set arcs x bounds.1) (omega (arith, linear))

closed_if_across : (side : Side) (set : ℕ → Bool) (arcs : List ArcRow) (x : List ℤ) → AllWithinBounds arcs x → flow_across set arcs x ≡ full_across side set arcs → IsClosedSet side arcs x set
closed_if_across side set [] [] bounds same k way residual = absurd (omega (arith, residual.is_arc))
closed_if_across side set (a ∷ arcs) (y ∷ x) bounds same zero way residual =
    shut_if_full side set a y (full_if_term (set a.tail) (set a.head) y (leaving side a) (entering side a) (across_parts side set a arcs y x bounds same).0) way residual.has_room
closed_if_across side set (a ∷ arcs) (y ∷ x) bounds same (suc k) way residual =
    closed_if_across side set arcs x bounds.1 (across_parts side set a arcs y x bounds same).1 k way (record { is_arc = omega (arith, residual.is_arc); has_room = residual.has_room })
closed_if_across side set _ _ bounds same k way residual = absurd bounds

-- ---- the nodes

seen_excess : (side : Side) (I : MinCost) (x : List ℤ) (set : ℕ → Bool) → held_in side I x set ≡ seen side (excess_of I x set)
seen_excess Ahead I x set = refl
seen_excess Behind I x set = negated I.nodes
  where
    term : (b : Bool) (z : ℤ) → (if b then neg_ℤ z else pos 0) ≡ neg_ℤ (if b then z else pos 0)
    term true z = refl
    term false z = refl

    negated : (n : ℕ) → nodes_sum n (λ v. if set v then neg_ℤ (excess I x v) else pos 0) ≡ neg_ℤ (nodes_sum n (λ v. if set v then excess I x v else pos 0))
    negated zero = refl
    negated (suc n) = omega (arith, ints, negated n, term (set (suc n)) (excess I x (suc n)))

part_most : (b : Bool) (z : ℤ) → (if b then z else pos 0) ≤ℤ positive_part z
part_most true (pos n) = omega (arith, ints)
part_most true (negsuc n) = omega (arith, ints)
part_most false (pos n) = omega (arith, ints)
part_most false (negsuc n) = omega (arith, ints)

part_if_in : (b : Bool) (z : ℤ) → (pos 0 <ℤ z → b ≡ true) → (b ≡ true → pos 0 ≤ℤ z) → (if b then z else pos 0) ≡ positive_part z
part_if_in true (pos n) holds none = refl
part_if_in true (negsuc n) holds none = absurd (omega (arith, ints, none refl))
part_if_in false (pos zero) holds none = refl
part_if_in false (pos (suc n)) holds none = absurd (false≢true (holds (omega (arith, ints))))
part_if_in false (negsuc n) holds none = refl

in_if_part : (b : Bool) (z : ℤ) → (if b then z else pos 0) ≡ positive_part z → pos 0 <ℤ z → b ≡ true
in_if_part true z same above = refl
in_if_part false (pos n) same above = absurd (omega (arith, ints, same, above))
in_if_part false (negsuc n) same above = absurd (omega (arith, ints, above))

terms_same : (n : ℕ) (f g : ℕ → ℤ) → ((v : ℕ) → IsNodeOf n v → f v ≤ℤ g v) → nodes_sum n f ≡ nodes_sum n g → (v : ℕ) → IsNodeOf n v → f v ≡ g v
terms_same zero f g most same v node = absurd (omega (arith, node.0, node.1))
terms_same (suc n) f g most same v node =
    let below = nodes_sum-le n f g (λ w h. most w (h.0, omega (arith, h.1))) in
    let last = most (suc n) (omega arith, omega arith) in
    elim (cases_lt n v) [
      | inl past ↦ (let is : v ≡ suc n = omega (arith, past, node.1) in rw is (omega (arith, ints, below, last, same)))
      | inr le ↦ terms_same n f g (λ w h. most w (h.0, omega (arith, h.1))) (omega (arith, ints, below, last, same)) v (node.0, omega (arith, le))
    ]

-- ---- the greatest value, and the sets that have it

module _ (side : Side) (I : MinCost) (x : List ℤ) (set : ℕ → Bool) (ends : AllEndsAreNodes I) (bounds : AllWithinBounds I.arcs x) where
  -- what is left in the set lies as far above its value as what could go across it lies above what does
  gap : held_in side I x set -ℤ value side I set ≡ seen side (full_across side set I.arcs) -ℤ seen side (flow_across set I.arcs x)
  gap =
      omega (arith, ints, value_is side I set, seen_excess side I x set, ap (seen side) (excess_of-across I x set ends), seen_less side (supply_of I set) (full_across side set I.arcs), seen_less side (supply_of I set) (flow_across set I.arcs x))

  value_held : value side I set ≤ℤ held_in side I x set
  value_held = omega (arith, ints, gap, across_most side set I.arcs x bounds)

  held_most : held_in side I x set ≤ℤ total side I x
  held_most = nodes_sum-le I.nodes _ _ (λ v node. part_most (set v) (seen side (excess I x v)))

  pub value_most : value side I set ≤ℤ total side I x
  value_most = omega (arith, ints, value_held, held_most)

  value_if_closed : IsClosedSet side I.arcs x set → ((v : ℕ) → IsNode I v → pos 0 <ℤ seen side (excess I x v) → set v ≡ true) → ((v : ℕ) → IsNode I v → set v ≡ true → pos 0 ≤ℤ seen side (excess I x v)) → value side I set ≡ total side I x
  value_if_closed closed holds none =
      let all : held_in side I x set ≡ total side I x = nodes_sum-same I.nodes _ _ (λ v node. part_if_in (set v) (seen side (excess I x v)) (holds v node) (none v node)) in
      omega (arith, ints, gap, ap (seen side) (across_if_closed side set I.arcs x bounds closed), all)

  module _ (full : value side I set ≡ total side I x) where
    closed_if_full : IsClosedSet side I.arcs x set
    closed_if_full = closed_if_across side set I.arcs x bounds (seen_only side (flow_across set I.arcs x) (full_across side set I.arcs) (omega (arith, ints, gap, full, value_held, held_most)))

    holds_if_full : (v : ℕ) → IsNode I v → pos 0 <ℤ seen side (excess I x v) → set v ≡ true
    holds_if_full v node = in_if_part (set v) (seen side (excess I x v)) (terms_same I.nodes _ _ (λ w h. part_most (set w) (seen side (excess I x w))) (omega (arith, ints, value_held, held_most, full)) v node)

-- ---- the nodes of a side, as they are marked in a table

root_seen : (side : Side) (z y : ℤ) → z ≡ y → IsRoot side z → pos 0 <ℤ seen side y
root_seen Ahead z y same root = omega (arith, ints, same, root)
root_seen Behind z y same root = omega (arith, ints, same, root)

seen_root : (side : Side) (z y : ℤ) → z ≡ y → pos 0 <ℤ seen side y → IsRoot side z
seen_root Ahead z y same above = omega (arith, ints, same, above)
seen_root Behind z y same above = omega (arith, ints, same, above)

seen_same : (side : Side) (z y : ℤ) → z ≡ y → pos 0 ≤ℤ seen side z → pos 0 ≤ℤ seen side y
seen_same side z y same above = rw (← same) above

module _ (side : Side) (I : MinCost) (x e : List ℤ) (set : List Bool) (cut : ℕ → Bool) (ends : AllEndsAreNodes I) (bounds : AllWithinBounds I.arcs x)
    (is : IsExcess I.arcs (held I.nodes I.supply) x e) (marks : (v : ℕ) → IsNode I v → cut v ≡ in_set set v) (on : AreOnSide side I.arcs x e set)
    (none : (v : ℕ) → in_set set v ≡ true → pos 0 ≤ℤ seen side (number_at e v))
  where
    both_nodes : (side : Side) (k : ℕ) (way : Way) → k < length I.arcs → IsNode I (near_at side I.arcs k way) × IsNode I (far_at side I.arcs k way)
    both_nodes Ahead k way lt = ends_in I.nodes I.arcs ends k way lt
    both_nodes Behind k way lt = (let at = ends_in I.nodes I.arcs ends k way lt in (at.1, at.0))

    closed_as : (f g : ℕ → Bool) → ((v : ℕ) → IsNode I v → f v ≡ g v) → IsClosedSet side I.arcs x f → IsClosedSet side I.arcs x g
    closed_as f g same closed k way residual near =
        let nodes = both_nodes side k way residual.is_arc in
        sym (same (far_at side I.arcs k way) nodes.1) ∙ closed k way residual (same (near_at side I.arcs k way) nodes.0 ∙ near)

    pub cut_value : value side I cut ≡ total side I x
    cut_value = value_if_closed side I x cut ends bounds (closed_as (in_set set) cut (λ v node. sym (marks v node)) on.closed)
        (λ v node above. marks v node ∙ on.holds v (seen_root side (number_at e v) (excess I x v) (excess_at I x e is v node) above))
        (λ v node inside. seen_same side (number_at e v) (excess I x v) (excess_at I x e is v node) (none v (sym (marks v node) ∙ inside)))

    module _ (other : ℕ → Bool) (full : value side I other ≡ total side I x) where
      -- the other set as a table of marks
      abbrev other_marks : List Bool
      other_marks = table (suc I.nodes) other

      marked_as : (v : ℕ) → IsNode I v → other v ≡ in_set other_marks v
      marked_as v node = sym (table_at (suc I.nodes) other v false (omega (arith, node.1)))

      holds_roots : (v : ℕ) → IsRoot side (number_at e v) → in_set other_marks v ≡ true
      holds_roots v root = elim (is_node_or_not I.nodes v) [
        | inl node ↦ sym (marked_as v node) ∙ holds_if_full side I x other ends bounds full v node (root_seen side (number_at e v) (excess I x v) (excess_at I x e is v node) root)
        | inr no_node ↦ absurd (idle side (root_seen side (number_at e v) (pos 0) (omega (arith, ints, is v, held_other I.nodes I.supply v no_node, net-none I.nodes I.arcs x v ends no_node)) root))
      ]
        where
          idle : (side : Side) → pos 0 <ℤ seen side (pos 0) → ⊥
          idle Ahead above = omega (arith, ints, above)
          idle Behind above = omega (arith, ints, above)

      pub cut_least : (v : ℕ) → IsNode I v → cut v ≡ true → other v ≡ true
      cut_least v node inside =
          marked_as v node ∙ on.least other_marks (closed_as other (in_set other_marks) marked_as (closed_if_full side I x other ends bounds full)) holds_roots v (sym (marks v node) ∙ inside)
