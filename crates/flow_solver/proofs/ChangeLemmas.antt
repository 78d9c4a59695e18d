-- What a change of the instance leaves of its tables, its flow and its excesses.
use Rattle.std.proofs.Common.{◌≡◌, ℕ, zero, suc, ◌-◌, ◌<◌, ◌≤◌, ℤ, pos, negsuc, neg_ℤ, ◌-ℤ◌, ◌+ℤ◌, ◌≤ℤ◌, List, [], ◌∷◌, length, refl, ap, ◌∙◌, inl, inr, arith, slice_set, slice_index_or, unsigned_abs, ◌++◌}
use Rattle.std.specs.List.{AllZip}
use Rattle.std.proofs.lemmas.Int.{ints}
use native.Mathlib.Numerals.{unary_clauses}
use Rattle.std.proofs.lemmas.Bool.{cases_eq}
use Rattle.std.proofs.lemmas.List.{length-set, get_or_default, get_or-set_same, get_or-set_other}
use Rattle.dimacs_text.specs.declared.problem.ArcRow.{ArcRow}
use Rattle.dimacs_text.specs.Lawful.{IsLawfulRow}
use Rattle.dimacs_text.specs.declared.problem.Kind.TheVariants.{Min}
use Rattle.network.specs.Flow.{FollowsSign, IsCertifiedFlow, IsWithinBounds, excess, net, nodes_sum, positive_part, reduced_cost, total_excess}
use Rattle.network.specs.Edited.{with_last}
use Rattle.network.specs.Instance.{Demand, Supplies, Terminals, Instance, IsLawful, DemandFits, at_node, kind_of, numbered_flow, reduced, reduced_arcs, reduced_supply, with_supply}
use Rattle.network.proofs.Sums.{nodes_sum-add, nodes_sum-le, nodes_sum-one}
use Rattle.residual_graph.specs.Residual.{number_at, row_at}
use Rattle.flow_changes.specs.Push.{only_at as at_one}
use Rattle.augmentation.specs.Nodes.{held}
use Rattle.flow_solver.specs.Edit.{IsNearest}
use Rattle.flow_solver.specs.TablesView.{flow_index, supplies_in}
use Rattle.residual_graph.proofs.NodeNumbers.{IsNodeOf, is_node_or_not}
use Rattle.augmentation.proofs.NodeLemmas.{held_node, held_other}
use Rattle.flow_changes.proofs.PushLemmas.{at_same, at_other}
use Rattle.flow_solver.proofs.ExcessLemmas.{at_node_bounds}
use Rattle.flow_solver.proofs.BalanceLemmas.{net-push, net-set, net-set_row}
use Rattle.residual_graph.proofs.GraphLemmas.{with_row}
use Rattle.residual_graph.proofs.WalkLemmas.{rows_push}

-- ---- the instance and its rows

rows_set : (D : Demand) (arcs : List ArcRow) (k : ℕ) (row : ArcRow) → 1 ≤ k → slice_set (reduced_arcs D arcs) (flow_index D k) row ≡ reduced_arcs D (slice_set arcs (k - 1) row)
rows_set (Terminals source sink) arcs zero row one = absurd (omega (arith, one))
rows_set (Terminals source sink) arcs (suc i) row one = simp unary_clauses refl
rows_set _ arcs k row one = refl

-- the rows of the reduced instance once arc k has changed
pub rows_changed : (I : Instance) (k : ℕ) (row : ArcRow) → 1 ≤ k → slice_set (reduced I).arcs (flow_index I.demand k) row ≡ (reduced (with_row I (k - 1) row)).arcs
rows_changed I k row one = rows_set I.demand I.arcs k row one

row_of_arc : (D : Demand) (arcs : List ArcRow) (k : ℕ) → (1 ≤ k) × (k ≤ length arcs) → (flow_index D k < length (reduced_arcs D arcs)) × (row_at (reduced_arcs D arcs) (flow_index D k) ≡ row_at arcs (k - 1))
row_of_arc (Terminals source sink) arcs zero at = absurd (omega (arith, at.0))
row_of_arc (Terminals source sink) arcs (suc i) at = (omega (arith, at.1), simp unary_clauses refl)
row_of_arc _ arcs k at = (omega (arith, at.0, at.1), refl)

pub place_in : (I : Instance) (k : ℕ) → (1 ≤ k) × (k ≤ length I.arcs) → flow_index I.demand k < length (reduced I).arcs
place_in I k at = (row_of_arc I.demand I.arcs k at).0

-- the row at the place of arc k is that arc
pub row_is : (I : Instance) (k : ℕ) (d : ArcRow) → (1 ≤ k) × (k ≤ length I.arcs) → row_at (reduced I).arcs (flow_index I.demand k) ≡ slice_index_or I.arcs (k - 1) d
row_is I k d at =
    let lt : k - 1 < length I.arcs = omega (arith, at.0, at.1) in
    (row_of_arc I.demand I.arcs k at).1 ∙ get_or_default I.arcs (k - 1) _ d lt

-- the flow of arc k, among those of the numbered arcs
pub flow_at : (D : Demand) (x : List ℤ) (k : ℕ) (d : ℤ) → 1 ≤ k → slice_index_or (numbered_flow D x) (k - 1) d ≡ slice_index_or x (flow_index D k) d
flow_at (Terminals source sink) x zero d one = absurd (omega (arith, one))
flow_at (Terminals source sink) (y ∷ x) (suc i) d one = simp unary_clauses refl
flow_at _ _ _ d one = refl

-- ---- one arc more or less at the end

pub rows_more : (I : Instance) (row : ArcRow) → (reduced I).arcs ++ row ∷ [] ≡ (reduced (with_last I row)).arcs
rows_more I row = rows_push I.demand I.arcs row

-- ---- another supply

abbrev pub supplied : Instance → ℕ → ℤ → Instance
supplied I v x = record { nodes = I.nodes; demand = with_supply I.demand v x; arcs = I.arcs; room = I.room }

arcs_supplied : (D : Demand) (arcs : List ArcRow) (v : ℕ) (x : ℤ) → reduced_arcs (with_supply D v x) arcs ≡ reduced_arcs D arcs
arcs_supplied D arcs v x = grind arith

pub rows_kept : (I : Instance) (v : ℕ) (x : ℤ) → (reduced (supplied I v x)).arcs ≡ (reduced I).arcs
rows_kept I v x = arcs_supplied I.demand I.arcs v x

-- ---- the flow and its potentials

zip_set : {A B : Type 0} (R : A → B → Type 0) (xs : List A) (ys : List B) (k : ℕ) (a : A) (b : B) → AllZip R xs ys → R a b → AllZip R (slice_set xs k a) (slice_set ys k b)
zip_set R [] [] k a b h r = tt
zip_set R (x ∷ xs) (y ∷ ys) zero a b h r = (r, h.1)
zip_set R (x ∷ xs) (y ∷ ys) (suc k) a b h r = (h.0, zip_set R xs ys k a b h.1 r)
zip_set R _ _ k a b h r = absurd h

zip_push : {A B : Type 0} (R : A → B → Type 0) (xs : List A) (ys : List B) (a : A) (b : B) → AllZip R xs ys → R a b → AllZip R (xs ++ a ∷ []) (ys ++ b ∷ [])
zip_push R [] [] a b h r = (r, tt)
zip_push R (x ∷ xs) (y ∷ ys) a b h r = (h.0, zip_push R xs ys a b h.1 r)
zip_push R _ _ a b h r = absurd h

-- a flow is certified still where that of a changed arc went to the nearest value
pub certified_changed : (I : Instance) (k : ℕ) (row : ArcRow) (q : ℕ → ℤ) (x : List ℤ) (z : ℤ) → 1 ≤ k → IsCertifiedFlow (reduced I) x q → IsNearest row (reduced_cost q row) (number_at x (flow_index I.demand k)) z
    → IsCertifiedFlow (reduced (with_row I (k - 1) row)) (slice_set x (flow_index I.demand k) z) q
certified_changed I k row q x z one certified near = record {
  bounds = rw (← rows_changed I k row one) (zip_set IsWithinBounds (reduced I).arcs x (flow_index I.demand k) row z certified.bounds (near.within.low_kept, near.within.cap_kept));
  signs = rw (← rows_changed I k row one) (zip_set (FollowsSign q) (reduced I).arcs x (flow_index I.demand k) row z certified.signs (record { dear = near.dear; cheap = near.cheap }));
  range = certified.range;
}

-- so it is where an arc was added with the nearest flow
pub certified_more : (I : Instance) (row : ArcRow) (q : ℕ → ℤ) (x : List ℤ) (z : ℤ) → IsCertifiedFlow (reduced I) x q → IsNearest row (reduced_cost q row) (pos 0) z → IsCertifiedFlow (reduced (with_last I row)) (x ++ z ∷ []) q
certified_more I row q x z certified near = record {
  bounds = rw (← rows_more I row) (zip_push IsWithinBounds (reduced I).arcs x row z certified.bounds (near.within.low_kept, near.within.cap_kept));
  signs = rw (← rows_more I row) (zip_push (FollowsSign q) (reduced I).arcs x row z certified.signs (record { dear = near.dear; cheap = near.cheap }));
  range = certified.range;
}

-- ---- what is left

gained : (z y more : ℤ) → pos 0 ≤ℤ more → y ≤ℤ (z +ℤ more) → positive_part y ≤ℤ (positive_part z +ℤ more)
gained (pos a) (pos b) more some le = omega (arith, ints, le)
gained (negsuc a) (pos b) more some le = omega (arith, ints, le)
gained (pos a) (negsuc b) more some le = omega (arith, ints, some)
gained (negsuc a) (negsuc b) more some le = omega (arith, ints, some)

-- where one node gains at most m, what lies in excess grows by at most m
total_gained : (n : ℕ) (f g : ℕ → ℤ) (u m : ℕ) → IsNodeOf n u → ((v : ℕ) → IsNodeOf n v → g v ≤ℤ (f v +ℤ at_one u (pos m) v)) → nodes_sum n (λ v. positive_part (g v)) ≤ℤ (nodes_sum n (λ v. positive_part (f v)) +ℤ pos m)
total_gained n f g u m node le =
    let each = nodes_sum-le n (λ v. positive_part (g v)) (λ v. positive_part (f v) +ℤ at_one u (pos m) v) (λ v at. gained (f v) (g v) (at_one u (pos m) v) (at_node_bounds u (pos m) v (omega (arith, ints))).0 (le v at)) in
    let split = nodes_sum-add n (λ v. positive_part (f v)) (λ v. at_one u (pos m) v) in
    omega (arith, ints, each, split, nodes_sum-one n u (λ v. pos m) node.0 node.1)

at_one-neg : (u v : ℕ) (a : ℤ) → at_one u (neg_ℤ a) v ≡ neg_ℤ (at_one u a v)
at_one-neg u v a = grind (arith, ints)

-- what is carried from one node to another is all that can come to lie in excess
total_carried : (n : ℕ) (f g : ℕ → ℤ) (u w : ℕ) (d : ℤ) → IsNodeOf n u → IsNodeOf n w → ((v : ℕ) → g v ≡ (f v -ℤ at_one u d v) +ℤ at_one w d v) → nodes_sum n (λ v. positive_part (g v)) ≤ℤ (nodes_sum n (λ v. positive_part (f v)) +ℤ pos (unsigned_abs d))
total_carried n f g u w (pos m) from to moved =
    total_gained n f g w m to (λ v at. omega (arith, ints, moved v, (at_node_bounds u (pos m) v (omega (arith, ints))).0))
total_carried n f g u w (negsuc m) from to moved =
    total_gained n f g u (suc m) from (λ v at. omega (arith, ints, moved v, at_one-neg u v (pos (suc m)), at_one-neg w v (pos (suc m)), (at_node_bounds w (pos (suc m)) v (omega (arith, ints))).0))

-- the flow of a changed arc went to another value
pub excess_changed : (I : Instance) (x : List ℤ) (k : ℕ) (row : ArcRow) (z : ℤ) → IsLawfulRow I.nodes row → (1 ≤ k) × (k ≤ length I.arcs)
    → row.tail ≡ (slice_index_or I.arcs (k - 1) row).tail → row.head ≡ (slice_index_or I.arcs (k - 1) row).head → length x ≡ length (reduced I).arcs
    → total_excess (reduced (with_row I (k - 1) row)) (slice_set x (flow_index I.demand k) z) ≤ℤ (total_excess (reduced I) x +ℤ pos (unsigned_abs (z -ℤ number_at x (flow_index I.demand k))))
excess_changed I x k row z limits at tail head sized =
    total_carried I.nodes (excess (reduced I) x) (excess (reduced (with_row I (k - 1) row)) (slice_set x place z)) row.tail row.head d limits.tail limits.head (λ v. omega (arith, ints, nets v))
  where
    place : ℕ
    place = flow_index I.demand k

    d : ℤ
    d = z -ℤ number_at x place

    same_tail : row.tail ≡ (row_at (reduced I).arcs place).tail
    same_tail = rw (row_is I k row at) tail

    same_head : row.head ≡ (row_at (reduced I).arcs place).head
    same_head = rw (row_is I k row at) head

    nets : (v : ℕ) → net (reduced (with_row I (k - 1) row)).arcs (slice_set x place z) v ≡ (net (reduced I).arcs x v +ℤ at_one row.tail d v) -ℤ at_one row.head d v
    nets v =
        let kept = net-set_row (reduced I).arcs (slice_set x place z) place v row (place_in I k at) (length-set x place z ∙ sized) same_tail same_head in
        let moved = net-set (reduced I).arcs x place v z (place_in I k at) sized in
        let out = ap (λ (u : ℕ). at_one u d v) same_tail in
        let into = ap (λ (u : ℕ). at_one u d v) same_head in
        rw (← rows_changed I k row at.0) (omega (arith, ints, kept, moved, out, into))

-- an arc was added with some flow
pub excess_more : (I : Instance) (x : List ℤ) (row : ArcRow) (z : ℤ) → IsLawfulRow I.nodes row → length x ≡ length (reduced I).arcs → total_excess (reduced (with_last I row)) (x ++ z ∷ []) ≤ℤ (total_excess (reduced I) x +ℤ pos (unsigned_abs z))
excess_more I x row z limits sized =
    total_carried I.nodes (excess (reduced I) x) (excess (reduced (with_last I row)) (x ++ z ∷ [])) row.tail row.head z limits.tail limits.head (λ v. omega (arith, ints, nets v))
  where
    nets : (v : ℕ) → net (reduced (with_last I row)).arcs (x ++ z ∷ []) v ≡ (net (reduced I).arcs x v +ℤ at_one row.tail z v) -ℤ at_one row.head z v
    nets v = (let more = net-push (reduced I).arcs x row v z sized in rw (← rows_more I row) (omega (arith, ints, more)))

-- ---- what is left once a supply has changed

-- the supply of the node alone changes
pub supply_at : (n : ℕ) (D : Demand) (v : ℕ) (x : ℤ) → kind_of D ≡ Min → DemandFits n D → IsNodeOf n v → (w : ℕ) → IsNodeOf n w → reduced_supply (with_supply D v x) w ≡ reduced_supply D w +ℤ at_one v (x -ℤ reduced_supply D v) w
supply_at n (Supplies s) v x kind fits node w at = elim (cases_eq w v) [
  | inl same ↦ rw same (let here = get_or-set_same s (v - 1) x (pos 0) (omega (arith, fits.0, node.0, node.1)) in
      omega (arith, ints, here, at_same v (x -ℤ at_node s v)))
  | inr other ↦ (let kept = get_or-set_other s (v - 1) (w - 1) x (pos 0) (λ e. other (omega (arith, node.0, at.0))) in
      omega (arith, ints, kept, at_other v (x -ℤ at_node s v) w other))
]
supply_at n _ v x kind fits node w at = cc

-- the same with nothing at what is no node
pub supplies_held : (I : Instance) (v : ℕ) (z : ℤ) → IsLawful I → kind_of I.demand ≡ Min → IsNodeOf I.nodes v → (w : ℕ) → held I.nodes (reduced (supplied I v z)).supply w ≡ held I.nodes (reduced I).supply w +ℤ at_one v (z -ℤ (reduced I).supply v) w
supplies_held I v z lawful kind node w = elim (is_node_or_not I.nodes w) [
  | inl at ↦ rw (held_node I.nodes (reduced (supplied I v z)).supply w at, held_node I.nodes (reduced I).supply w at) (supply_at I.nodes I.demand v z kind lawful.demand node w at)
  | inr none ↦ (let zero = at_other v (z -ℤ (reduced I).supply v) w (λ same. none (rw same node)) in
      omega (arith, ints, held_other I.nodes (reduced I).supply w none, held_other I.nodes (reduced (supplied I v z)).supply w none))
]

pub excess_supplied : (I : Instance) (v : ℕ) (z : ℤ) (x : List ℤ) → IsLawful I → kind_of I.demand ≡ Min → IsNodeOf I.nodes v
    → total_excess (reduced (supplied I v z)) x ≤ℤ (total_excess (reduced I) x +ℤ pos (unsigned_abs (z -ℤ (reduced I).supply v)))
excess_supplied I v z x lawful kind node =
    total_gained I.nodes (excess (reduced I) x) (excess (reduced (supplied I v z)) x) v (unsigned_abs d) node
    (λ w at. omega (arith, ints, supply_at I.nodes I.demand v z kind lawful.demand node w at, ap (λ (rows : List ArcRow). net rows x w) (rows_kept I v z), at_most v d w))
  where
    d : ℤ
    d = z -ℤ (reduced I).supply v

    at_most : (u : ℕ) (d : ℤ) (w : ℕ) → at_one u d w ≤ℤ at_one u (pos (unsigned_abs d)) w
    at_most u d w = grind (arith, ints)

-- ---- exchanges

pub supply_entry : (n : ℕ) (D : Demand) (v : ℕ) (d : ℤ) → kind_of D ≡ Min → DemandFits n D → IsNodeOf n v → reduced_supply D v ≡ slice_index_or (supplies_in D) (v - 1) d
supply_entry n (Supplies s) v d kind fits node = get_or_default s (v - 1) (pos 0) d (omega (arith, fits.0, node.0, node.1))
supply_entry n _ v d kind fits node = cc
