-- Flow that is pushed along a path.
use Rattle.std.proofs.Common.{◌≡◌, ◌≢◌, ℕ, zero, suc, ◌<◌, ℤ, pos, ◌-ℤ◌, ◌+ℤ◌, ◌≤ℤ◌, List, [], ◌∷◌, length, refl, sym, ap, subst, ◌∙◌, inl, inr, arith, Bool, true, false, cond, eqb}
use Rattle.std.specs.Prelude.{slice_set}
use Rattle.std.specs.List.{All}
use Rattle.std.proofs.lemmas.Int.{ints}
use Rattle.std.proofs.lemmas.Bool.{cases_eq, eq-eqb, ne_eqb}
use Rattle.std.proofs.lemmas.List.{get_or-set_same, get_or-set_other, length-set, set_comm}
use Rattle.std.proofs.lemmas.List.Elements.{All-nil, All-cons, All-head, All-tail}
use Rattle.dimacs_text.specs.declared.problem.ArcRow.{ArcRow}
use Rattle.residual_graph.specs.declared.residual.Way.{Way}
use Rattle.residual_graph.specs.declared.residual.Way.TheVariants.{Forward, Backward}
use Rattle.residual_graph.specs.Residual.{IsRow, IsWithinRow, IsPseudoflow, NoneBelow, number_at, row_at, room_of, start_at, end_at, cost_at}
use Rattle.network.specs.Flow.{net, outflow, inflow}
use Rattle.flow_changes.specs.Push.{IsPath, moved, IsShift, HasRoom, push_along, IsTight, only_at, IsTransfer}
use Rattle.residual_graph.specs.declared.residual.ResidualArc.{ResidualArc}

-- no hop is along arc k
abbrev pub Avoids : ℕ → List ResidualArc → Type 0
Avoids k [] = Unit {0}
Avoids k (h ∷ hops) = (h.arc ≡ k → ⊥) × Avoids k hops

pub HasRoom-set : (arcs : List ArcRow) (x : List ℤ) (m : ℤ) (k : ℕ) (z : ℤ) (hops : List ResidualArc) → Avoids k hops → HasRoom arcs x m hops → HasRoom arcs (slice_set x k z) m hops
HasRoom-set arcs x m k z [] apart room = tt
HasRoom-set arcs x m k z (h ∷ hops) apart room =
    (rw (get_or-set_other x k h.arc z (pos 0) apart.0) room.0, HasRoom-set arcs x m k z hops apart.1 room.1)

-- m more or less stays within the bounds
pub IsWithin-moved : (nodes : ℕ) (a : ArcRow) (x m : ℤ) (way : Way) → IsRow nodes a → IsWithinRow a x → pos 1 ≤ℤ m → m ≤ℤ room_of a x way → IsWithinRow a (moved way x m)
IsWithin-moved nodes a x m Forward row within at_least fits = record {
  low_kept = omega (arith, ints, within.low_kept, at_least);
  cap_kept = omega (arith, ints, fits);
}
IsWithin-moved nodes a x m Backward row within at_least fits = record {
  low_kept = omega (arith, ints, fits);
  cap_kept = omega (arith, ints, within.cap_kept, at_least);
}

pub IsFlow-set : {nodes : ℕ} {arcs : List ArcRow} {x : List ℤ} → IsPseudoflow nodes arcs x → (k : ℕ) (z : ℤ) → k < length arcs → IsWithinRow (row_at arcs k) z → IsPseudoflow nodes arcs (slice_set x k z)
IsFlow-set {nodes} {arcs} {x} flow k z lt within = record {
  few_nodes = flow.few_nodes;
  few_arcs = flow.few_arcs;
  same_length = length-set x k z ∙ flow.same_length;
  rows = flow.rows;
  within = λ j h. (elim (cases_eq j k) [
    | inl same ↦ subst (λ (i : ℕ). IsWithinRow (row_at arcs i) (number_at (slice_set x k z) i)) (sym same) (rw (get_or-set_same x k z (pos 0) (omega (arith, flow.same_length))) within)
    | inr ne ↦ rw (get_or-set_other x k j z (pos 0) ne) (flow.within j h)
  ]);
}

-- the hops are along arcs that are there, no two along one arc
abbrev pub AreApart : List ArcRow → List ResidualArc → Type 0
AreApart arcs [] = Unit {0}
AreApart arcs (h ∷ hops) = (h.arc < length arcs) × Avoids h.arc hops × AreApart arcs hops

-- what a push leaves of the arcs that it does not take
pub push_elsewhere : (hops : List ResidualArc) (m : ℤ) (x : List ℤ) (k : ℕ) → Avoids k hops → number_at (push_along hops m x) k ≡ number_at x k
push_elsewhere [] m x k apart = refl
push_elsewhere (h ∷ hops) m x k apart =
    push_elsewhere hops m (slice_set x h.arc (moved h.way (number_at x h.arc) m)) k apart.1 ∙ get_or-set_other x h.arc k (moved h.way (number_at x h.arc) m) (pos 0) (λ e. apart.0 (sym e))

pub length-push : (hops : List ResidualArc) (m : ℤ) (x : List ℤ) → length (push_along hops m x) ≡ length x
length-push [] m x = refl
length-push (h ∷ hops) m x = length-push hops m (slice_set x h.arc (moved h.way (number_at x h.arc) m)) ∙ length-set x h.arc (moved h.way (number_at x h.arc) m)

-- an arc that a push does not take may be written after it
pub push_along-set : (hops : List ResidualArc) (m : ℤ) (x : List ℤ) (k : ℕ) (z : ℤ) → Avoids k hops → push_along hops m (slice_set x k z) ≡ slice_set (push_along hops m x) k z
push_along-set [] m x k z apart = refl
push_along-set (h ∷ hops) m x k z apart =
    ap (λ (y : ℤ). push_along hops m (slice_set (slice_set x k z) h.arc (moved h.way y m))) (get_or-set_other x k h.arc z (pos 0) apart.0)
    ∙ ap (push_along hops m) (set_comm x k h.arc z (moved h.way (number_at x h.arc) m) (λ e. apart.0 (sym e)))
    ∙ push_along-set hops m (slice_set x h.arc (moved h.way (number_at x h.arc) m)) k z apart.1

Avoids-from_all : (k : ℕ) (hops : List ResidualArc) → All (λ h. h.arc ≢ k) hops → Avoids k hops
Avoids-from_all k [] all = tt
Avoids-from_all k (h ∷ hops) all = (All-head (λ g. g.arc ≢ k) h hops all, Avoids-from_all k hops (All-tail (λ g. g.arc ≢ k) h hops all))

unmoved : (hops : List ResidualArc) (m : ℤ) (x y : List ℤ) (k : ℕ) (z : ℤ) → Avoids k hops → All (λ h. number_at y h.arc ≡ moved h.way (number_at (slice_set x k z) h.arc) m) hops → All (λ h. number_at y h.arc ≡ moved h.way (number_at x h.arc) m) hops
unmoved [] m x y k z apart all = All-nil (λ h. number_at y h.arc ≡ moved h.way (number_at x h.arc) m)
unmoved (h ∷ hops) m x y k z apart all =
    All-cons (λ g. number_at y g.arc ≡ moved g.way (number_at x g.arc) m) h hops
    (All-head (λ g. number_at y g.arc ≡ moved g.way (number_at (slice_set x k z) g.arc) m) h hops all ∙ ap (λ (n : ℤ). moved h.way n m) (get_or-set_other x k h.arc z (pos 0) apart.0))
    (unmoved hops m x y k z apart.1 (All-tail (λ g. number_at y g.arc ≡ moved g.way (number_at (slice_set x k z) g.arc) m) h hops all))

pub IsShift-along : (arcs : List ArcRow) (hops : List ResidualArc) (m : ℤ) (x : List ℤ) → length x ≡ length arcs → AreApart arcs hops → IsShift hops m x (push_along hops m x)
IsShift-along arcs hops m x sized apart = record {
  same_length = length-push hops m x;
  on_path = moved_on hops x sized apart;
  elsewhere = λ k all. push_elsewhere hops m x k (Avoids-from_all k hops all);
}
  where
    moved_on : (hops : List ResidualArc) (x : List ℤ) → length x ≡ length arcs → AreApart arcs hops → All (λ h. number_at (push_along hops m x) h.arc ≡ moved h.way (number_at x h.arc) m) hops
    moved_on [] x sized apart = All-nil (λ h. number_at x h.arc ≡ moved h.way (number_at x h.arc) m)
    moved_on (h ∷ hops) x sized apart =
        let z = moved h.way (number_at x h.arc) m in
        All-cons (λ g. number_at (push_along hops m (slice_set x h.arc z)) g.arc ≡ moved g.way (number_at x g.arc) m) h hops
        (push_elsewhere hops m (slice_set x h.arc z) h.arc apart.1 ∙ get_or-set_same x h.arc z (pos 0) (omega (arith, sized, apart.0)))
        (unmoved hops m x (push_along hops m (slice_set x h.arc z)) h.arc z apart.1 (moved_on hops (slice_set x h.arc z) (length-set x h.arc z ∙ sized) apart.2))

pub IsFlow-along : (nodes : ℕ) (arcs : List ArcRow) (hops : List ResidualArc) (m : ℤ) (x : List ℤ) → IsPseudoflow nodes arcs x → pos 1 ≤ℤ m → AreApart arcs hops → HasRoom arcs x m hops → IsPseudoflow nodes arcs (push_along hops m x)
IsFlow-along nodes arcs [] m x flow at_least apart room = flow
IsFlow-along nodes arcs (h ∷ hops) m x flow at_least apart room =
    let z = moved h.way (number_at x h.arc) m in
    IsFlow-along nodes arcs hops m (slice_set x h.arc z)
    (IsFlow-set flow h.arc z apart.0 (IsWithin-moved nodes (row_at arcs h.arc) (number_at x h.arc) m h.way (flow.rows h.arc apart.0) (flow.within h.arc apart.0) at_least room.0))
    at_least apart.2 (HasRoom-set arcs x m h.arc z hops apart.1 room.1)

tight_both : (arcs : List ArcRow) (q : List ℤ) (k : ℕ) (a b : Way) → number_at q (end_at arcs k a) ≡ cost_at arcs k a +ℤ number_at q (start_at arcs k a) → number_at q (end_at arcs k b) ≤ℤ (cost_at arcs k b +ℤ number_at q (start_at arcs k b))
tight_both arcs q k Forward Forward e = omega (arith, ints, e)
tight_both arcs q k Forward Backward e = omega (arith, ints, e)
tight_both arcs q k Backward Forward e = omega (arith, ints, e)
tight_both arcs q k Backward Backward e = omega (arith, ints, e)

pub NoneBelow-set : (arcs : List ArcRow) (x q : List ℤ) (k : ℕ) (way : Way) (z : ℤ) → NoneBelow arcs x q → number_at q (end_at arcs k way) ≡ cost_at arcs k way +ℤ number_at q (start_at arcs k way) → NoneBelow arcs (slice_set x k z) q
NoneBelow-set arcs x q k way z none tight j b residual = elim (cases_eq j k) [
  | inl same ↦ subst (λ (i : ℕ). number_at q (end_at arcs i b) ≤ℤ (cost_at arcs i b +ℤ number_at q (start_at arcs i b))) (sym same) (tight_both arcs q k way b tight)
  | inr ne ↦ none j b (record { is_arc = residual.is_arc; has_room = rw (get_or-set_other x k j z (pos 0) ne) at residual.has_room })
]

pub NoneBelow-along : (arcs : List ArcRow) (q : List ℤ) (hops : List ResidualArc) (m : ℤ) (x : List ℤ) → NoneBelow arcs x q → IsTight arcs q hops → NoneBelow arcs (push_along hops m x) q
NoneBelow-along arcs q [] m x none tight = none
NoneBelow-along arcs q (h ∷ hops) m x none tight =
    NoneBelow-along arcs q hops m (slice_set x h.arc (moved h.way (number_at x h.arc) m)) (NoneBelow-set arcs x q h.arc h.way (moved h.way (number_at x h.arc) m) none tight.0) tight.1

pub flow_out-set : (arcs : List ArcRow) (x : List ℤ) (k : ℕ) (z : ℤ) (v : ℕ) → k < length arcs → length x ≡ length arcs → (outflow arcs (slice_set x k z) v +ℤ only_at (row_at arcs k).tail (number_at x k) v) ≡ (outflow arcs x v +ℤ only_at (row_at arcs k).tail z v)
flow_out-set [] x k z v lt sized = absurd (omega arith)
flow_out-set (a ∷ arcs) [] k z v lt sized = absurd (omega arith)
flow_out-set (a ∷ arcs) (y ∷ x) zero z v lt sized = omega (arith, ints)
flow_out-set (a ∷ arcs) (y ∷ x) (suc k) z v lt sized = omega (arith, ints, flow_out-set arcs x k z v (omega arith) (omega arith))

pub flow_in-set : (arcs : List ArcRow) (x : List ℤ) (k : ℕ) (z : ℤ) (v : ℕ) → k < length arcs → length x ≡ length arcs → (inflow arcs (slice_set x k z) v +ℤ only_at (row_at arcs k).head (number_at x k) v) ≡ (inflow arcs x v +ℤ only_at (row_at arcs k).head z v)
flow_in-set [] x k z v lt sized = absurd (omega arith)
flow_in-set (a ∷ arcs) [] k z v lt sized = absurd (omega arith)
flow_in-set (a ∷ arcs) (y ∷ x) zero z v lt sized = omega (arith, ints)
flow_in-set (a ∷ arcs) (y ∷ x) (suc k) z v lt sized = omega (arith, ints, flow_in-set arcs x k z v (omega arith) (omega arith))

only_at-add : (u v : ℕ) (a b : ℤ) → only_at u (a +ℤ b) v ≡ only_at u a v +ℤ only_at u b v
only_at-add u v a b = by_test (eqb u v)
  where
    by_test : (t : Bool) → cond t (a +ℤ b) (pos 0) ≡ cond t a (pos 0) +ℤ cond t b (pos 0)
    by_test true = refl
    by_test false = refl

pub only_at-sub : (u v : ℕ) (a b : ℤ) → only_at u (a -ℤ b) v ≡ only_at u a v -ℤ only_at u b v
only_at-sub u v a b = by_test (eqb u v)
  where
    by_test : (t : Bool) → cond t (a -ℤ b) (pos 0) ≡ cond t a (pos 0) -ℤ cond t b (pos 0)
    by_test true = refl
    by_test false = refl

net-moved : (arcs : List ArcRow) (x : List ℤ) (k : ℕ) (way : Way) (m : ℤ) (v : ℕ) → k < length arcs → length x ≡ length arcs → net arcs (slice_set x k (moved way (number_at x k) m)) v ≡ (net arcs x v +ℤ only_at (start_at arcs k way) m v) -ℤ only_at (end_at arcs k way) m v
net-moved arcs x k Forward m v lt sized =
    omega (arith, ints, flow_out-set arcs x k (number_at x k +ℤ m) v lt sized, flow_in-set arcs x k (number_at x k +ℤ m) v lt sized, only_at-add (row_at arcs k).tail v (number_at x k) m, only_at-add (row_at arcs k).head v (number_at x k) m)
net-moved arcs x k Backward m v lt sized =
    omega (arith, ints, flow_out-set arcs x k (number_at x k -ℤ m) v lt sized, flow_in-set arcs x k (number_at x k -ℤ m) v lt sized, only_at-sub (row_at arcs k).tail v (number_at x k) m, only_at-sub (row_at arcs k).head v (number_at x k) m)

-- a push changes the net flow at the two ends of its path alone
pub net-along : (arcs : List ArcRow) (hops : List ResidualArc) (m : ℤ) (x : List ℤ) (u w v : ℕ) → IsPath arcs hops u w → AreApart arcs hops → length x ≡ length arcs → net arcs (push_along hops m x) v ≡ (net arcs x v +ℤ only_at u m v) -ℤ only_at w m v
net-along arcs [] m x u w v path apart sized =
    let same : only_at u m v ≡ only_at w m v = ap (λ (n : ℕ). only_at n m v) path in
    omega (arith, ints, same)
net-along arcs (h ∷ hops) m x u w v path apart sized =
    let z = moved h.way (number_at x h.arc) m in
    let rest = net-along arcs hops m (slice_set x h.arc z) (end_at arcs h.arc h.way) w v path.1 apart.2 (length-set x h.arc z ∙ sized) in
    let here = net-moved arcs x h.arc h.way m v apart.0 sized in
    let same : only_at (start_at arcs h.arc h.way) m v ≡ only_at u m v = ap (λ (n : ℕ). only_at n m v) path.0 in
    omega (arith, ints, rest, here, same)

pub at_same : (u : ℕ) (m : ℤ) → only_at u m u ≡ m
at_same u m = ap (λ (t : Bool). cond t m (pos 0)) (eq-eqb u u refl)

pub at_other : (u : ℕ) (m : ℤ) (v : ℕ) → (v ≡ u → ⊥) → only_at u m v ≡ pos 0
at_other u m v ne = ap (λ (t : Bool). cond t m (pos 0)) (ne_eqb u v (λ e. ne (sym e)))

pub IsTransfer-put : (u w : ℕ) (m : ℤ) (e : List ℤ) (a b : ℤ) → u < length e → w < length e → (u ≡ w → ⊥) → a ≡ number_at e u -ℤ m → b ≡ number_at (slice_set e u a) w +ℤ m → IsTransfer u w m e (slice_set (slice_set e u a) w b)
IsTransfer-put u w m e a b u_in w_in apart a_is b_is = record {
  same_length = length-set (slice_set e u a) w b ∙ length-set e u a;
  by_node = λ v. (elim (cases_eq v w) [
    | inl same ↦ subst (λ (q : ℕ). number_at (slice_set (slice_set e u a) w b) q ≡ (number_at e q -ℤ only_at u m q) +ℤ only_at w m q) (sym same)
        (get_or-set_same (slice_set e u a) w b (pos 0) (omega (arith, length-set e u a, w_in)) ∙ (let kept : number_at (slice_set e u a) w ≡ number_at e w = get_or-set_other e u w a (pos 0) (λ h. apart (sym h)) in omega (arith, ints, kept, b_is, at_same w m, at_other u m w (λ h. apart (sym h)))))
    | inr not_w ↦ get_or-set_other (slice_set e u a) w v b (pos 0) not_w ∙ (elim (cases_eq v u) [
      | inl same ↦ subst (λ (q : ℕ). number_at (slice_set e u a) q ≡ (number_at e q -ℤ only_at u m q) +ℤ only_at w m q) (sym same)
          (get_or-set_same e u a (pos 0) u_in ∙ omega (arith, ints, a_is, at_same u m, at_other w m u apart))
      | inr not_u ↦ get_or-set_other e u v a (pos 0) not_u ∙ omega (arith, ints, at_other u m v not_u, at_other w m v not_w)
    ])
  ]);
}

pub HasRoom-weaker : (arcs : List ArcRow) (x : List ℤ) (m n : ℤ) (hops : List ResidualArc) → n ≤ℤ m → HasRoom arcs x m hops → HasRoom arcs x n hops
HasRoom-weaker arcs x m n [] le room = tt
HasRoom-weaker arcs x m n (h ∷ hops) le room = (omega (arith, ints, room.0, le), HasRoom-weaker arcs x m n hops le room.1)
