-- Tables of nodes and the sums over nodes and arcs.
use Rattle.std.proofs.Common.{◌≡◌, ℕ, zero, suc, ◌<◌, ℤ, pos, ◌+ℤ◌, List, [], ◌∷◌, length, refl, sym, subst, inl, inr, arith}
use Rattle.std.specs.Prelude.{slice_index_or}
use Rattle.std.proofs.lemmas.Int.{ints}
use Rattle.std.proofs.lemmas.Bool.{cases_lt}
use Rattle.std.proofs.lemmas.List.{get_or_past}
use Rattle.dimacs_text.specs.declared.problem.ArcRow.{ArcRow}
use Rattle.network.specs.Flow.{nodes_sum, net, outflow, inflow}
use Rattle.flow_changes.specs.Push.{only_at}
use Rattle.augmentation.specs.Nodes.{table, held}
use Rattle.flow_changes.proofs.PushLemmas.{at_other}
use Rattle.residual_graph.proofs.NodeNumbers.{AllEndsIn, IsNodeOf}

pub length-table : {A : Type 0} (n : ℕ) (f : ℕ → A) → length (table n f) ≡ n
length-table zero f = refl
length-table (suc n) f = omega (arith, length-table n (λ v. f (suc v)))

pub table_at : {A : Type 0} (n : ℕ) (f : ℕ → A) (v : ℕ) (d : A) → v < n → slice_index_or (table n f) v d ≡ f v
table_at zero f v d lt = absurd (omega arith)
table_at (suc n) f zero d lt = refl
table_at (suc n) f (suc v) d lt = table_at n (λ w. f (suc w)) v d (omega arith)

pub held_node : (n : ℕ) (f : ℕ → ℤ) (v : ℕ) → IsNodeOf n v → held n f v ≡ f v
held_node n f zero node = absurd (omega (arith, node.0))
held_node n f (suc v) node = table_at n (λ w. f (suc w)) v (pos 0) (omega (arith, node.1))

pub held_other : (n : ℕ) (f : ℕ → ℤ) (v : ℕ) → (IsNodeOf n v → ⊥) → held n f v ≡ pos 0
held_other n f zero none = refl
held_other n f (suc v) none = elim (cases_lt v n) [
  | inl lt ↦ absurd (none (omega arith, omega arith))
  | inr past ↦ get_or_past (table n (λ w. f (suc w))) v (pos 0) (omega (arith, length-table n (λ w. f (suc w))))
]

-- ---- flow at what is no node

out_of_none : (n : ℕ) (arcs : List ArcRow) (x : List ℤ) (v : ℕ) → AllEndsIn n arcs → (IsNodeOf n v → ⊥) → (outflow arcs x v ≡ pos 0) × (inflow arcs x v ≡ pos 0)
out_of_none n [] x v ends none = (refl, refl)
out_of_none n (a ∷ arcs) [] v ends none = (refl, refl)
out_of_none n (a ∷ arcs) (y ∷ x) v ends none =
    let rest = out_of_none n arcs x v ends.1 none in
    let tail : only_at a.tail y v ≡ pos 0 = at_other a.tail y v (λ e. none (subst (IsNodeOf n) (sym e) ends.0.0)) in
    let head : only_at a.head y v ≡ pos 0 = at_other a.head y v (λ e. none (subst (IsNodeOf n) (sym e) ends.0.1)) in
    (omega (arith, ints, rest.0, tail), omega (arith, ints, rest.1, head))

pub net-none : (n : ℕ) (arcs : List ArcRow) (x : List ℤ) (v : ℕ) → AllEndsIn n arcs → (IsNodeOf n v → ⊥) → net arcs x v ≡ pos 0
net-none n arcs x v ends none = let both = out_of_none n arcs x v ends none in omega (arith, ints, both.0, both.1)

-- ---- sums over nodes

pub nodes_sum-first : (n : ℕ) (g : ℕ → ℤ) → nodes_sum (suc n) g ≡ g 1 +ℤ nodes_sum n (λ v. g (suc v))
nodes_sum-first zero g = omega (arith, ints)
nodes_sum-first (suc n) g = omega (arith, ints, nodes_sum-first n g)
