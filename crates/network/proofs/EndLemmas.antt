-- The flows at the ends of a node, each counted by its side, add up to the node's net.
use Rattle.std.proofs.Common.{◌≡◌, ℕ, zero, suc, ◌+◌, ◌*◌, ◌/◌, ◌%◌, ◌<◌, ◌≤◌, ◌==◌, ℤ, pos, neg_ℤ, ◌+ℤ◌, ◌-ℤ◌, Bool, true, false, if◌then◌else◌, List, [], ◌∷◌, ◌++◌, length, take, slice_get, slice_index_or, Option, Some, None, refl, sym, ap, ◌∙◌, arith, eqb-true}
use Rattle.std.proofs.lemmas.List.{take_more, take_all, length-take}
use Rattle.std.proofs.lemmas.Option.{slice_get-get_or}
use Rattle.dimacs_text.specs.declared.problem.ArcRow.{ArcRow}
use Rattle.network.specs.Flow.{flow_sum, net}
use Rattle.network.specs.Ends.{node_of, end_node, end_flow, last_end_below}
use Rattle.network.proofs.IntegerAlgebra.{linear}
use Rattle.network.proofs.Sums.{flow_sum-sub}

-- what the ends of a node below n add
abbrev pub ends_sum : List ArcRow → List ℤ → ℕ → ℕ → ℤ
ends_sum arcs flow v zero = pos 0
ends_sum arcs flow v (suc end) = (if end_node arcs end == v then end_flow flow end else pos 0) +ℤ ends_sum arcs flow v end

-- what an arc adds to a node's net
abbrev pub arc_net : ℕ → ArcRow → ℤ → ℤ
arc_net v arc x = (if arc.tail == v then x else pos 0) -ℤ (if arc.head == v then x else pos 0)

flow_sum-push : (f : ArcRow → ℤ → ℤ) (arcs : List ArcRow) (flow : List ℤ) (arc : ArcRow) (x : ℤ) → length arcs ≡ length flow → flow_sum f (arcs ++ arc ∷ []) (flow ++ x ∷ []) ≡ flow_sum f arcs flow +ℤ f arc x
flow_sum-push f [] [] arc x e = omega (arith, linear)
flow_sum-push f (a ∷ arcs) (y ∷ flow) arc x e = let h = flow_sum-push f arcs flow arc x (omega arith) in omega (arith, linear)
flow_sum-push f _ _ arc x e = absurd (omega arith)

-- the two ends of one arc
two_ends : (v : ℕ) (arc : ArcRow) (x : ℤ) (b c : Bool) → ((if c then neg_ℤ x else pos 0) +ℤ ((if b then x else pos 0) +ℤ pos 0)) ≡ ((if b then x else pos 0) -ℤ (if c then x else pos 0))
two_ends v arc x true true = omega (arith, linear)
two_ends v arc x _ false = omega (arith, linear)
two_ends v arc x false true = omega (arith, linear)

-- an arc to name where there is none
abbrev pub no_arc : ArcRow
no_arc = record { tail = 0; head = 0; low = pos 0; cap = pos 0; cost = pos 0 }

pub end_node-tail : (arcs : List ArcRow) (k : ℕ) → k < length arcs → end_node arcs (2 * k) ≡ (slice_index_or arcs k no_arc).tail
end_node-tail arcs k h =
    let q : (2 * k) / 2 ≡ k = omega arith in
    let r : (2 * k) % 2 ≡ 0 = omega arith in
    (λ i. node_of (slice_get arcs (q i)) (r i)) ∙ ap (λ (o : Option ArcRow). node_of o 0) (slice_get-get_or arcs k no_arc h)

pub end_node-head : (arcs : List ArcRow) (k : ℕ) → k < length arcs → end_node arcs (suc (2 * k)) ≡ (slice_index_or arcs k no_arc).head
end_node-head arcs k h =
    let q : suc (2 * k) / 2 ≡ k = omega arith in
    let r : suc (2 * k) % 2 ≡ 1 = omega arith in
    (λ i. node_of (slice_get arcs (q i)) (r i)) ∙ ap (λ (o : Option ArcRow). node_of o 1) (slice_get-get_or arcs k no_arc h)

end_flow-tail : (flow : List ℤ) (k : ℕ) → end_flow flow (2 * k) ≡ slice_index_or flow k (pos 0)
end_flow-tail flow k =
    let q : (2 * k) / 2 ≡ k = omega arith in
    let r : (2 * k) % 2 ≡ 0 = omega arith in
    λ i. if (r i) == 0 then slice_index_or flow (q i) (pos 0) else neg_ℤ (slice_index_or flow (q i) (pos 0))

end_flow-head : (flow : List ℤ) (k : ℕ) → end_flow flow (suc (2 * k)) ≡ neg_ℤ (slice_index_or flow k (pos 0))
end_flow-head flow k =
    let q : suc (2 * k) / 2 ≡ k = omega arith in
    let r : suc (2 * k) % 2 ≡ 1 = omega arith in
    λ i. if (r i) == 0 then slice_index_or flow (q i) (pos 0) else neg_ℤ (slice_index_or flow (q i) (pos 0))

ends_sum-arcs : (arcs : List ArcRow) (flow : List ℤ) (v : ℕ) → length arcs ≡ length flow → (k : ℕ) → k ≤ length arcs → ends_sum arcs flow v (2 * k) ≡ flow_sum (arc_net v) (take k arcs) (take k flow)
ends_sum-arcs arcs flow v long zero h = refl
ends_sum-arcs arcs flow v long (suc k) h =
    let before = ends_sum-arcs arcs flow v long k (omega arith) in
    let arc = slice_index_or arcs k no_arc in
    let x = slice_index_or flow k (pos 0) in
    let n : 2 * suc k ≡ suc (suc (2 * k)) = omega arith in
    let m : k + 1 ≡ suc k = omega arith in
    let push : flow_sum (arc_net v) (take (suc k) arcs) (take (suc k) flow) ≡ flow_sum (arc_net v) (take k arcs) (take k flow) +ℤ arc_net v arc x =
    (λ i. flow_sum (arc_net v) ((ap (λ (l : ℕ). take l arcs) (sym m) ∙ take_more arcs k no_arc (omega arith)) i) ((ap (λ (l : ℕ). take l flow) (sym m) ∙ take_more flow k (pos 0) (omega arith)) i))
    ∙ flow_sum-push (arc_net v) (take k arcs) (take k flow) arc x (simp length-take (omega arith)) in
    let tail = end_node-tail arcs k (omega arith) in
    let head = end_node-head arcs k (omega arith) in
    let out = end_flow-tail flow k in
    let into = end_flow-head flow k in
    let here : (if end_node arcs (suc (2 * k)) == v then end_flow flow (suc (2 * k)) else pos 0) +ℤ ((if end_node arcs (2 * k) == v then end_flow flow (2 * k) else pos 0) +ℤ pos 0) ≡ arc_net v arc x =
    rw (tail, head, out, into) (two_ends v arc x (arc.tail == v) (arc.head == v)) in
    ap (ends_sum arcs flow v) n ∙ omega (arith, linear)

-- all ends of a node add up to its net
pub ends_sum-net : (arcs : List ArcRow) (flow : List ℤ) (v : ℕ) → length arcs ≡ length flow → ends_sum arcs flow v (2 * length arcs) ≡ net arcs flow v
ends_sum-net arcs flow v long =
    let all = ends_sum-arcs arcs flow v long (length arcs) (omega arith) in
    let split = flow_sum-sub (λ arc x. if arc.tail == v then x else pos 0) (λ arc x. if arc.head == v then x else pos 0) arcs flow in
    all ∙ (λ i. flow_sum (arc_net v) (take_all (length arcs) arcs (omega arith) i) (take_all (length arcs) flow (omega arith) i)) ∙ sym split

-- ---- the walk from an end to the next one

-- what an end and those below it add to the net of their node
abbrev pub rest_sum : List ArcRow → List ℤ → ℕ → Option ℕ → ℤ
rest_sum arcs flow v None = pos 0
rest_sum arcs flow v (Some end) = end_flow flow end +ℤ ends_sum arcs flow v end

-- an end of the node
abbrev pub IsEndAt : List ArcRow → ℕ → Option ℕ → Type 0
IsEndAt arcs v None = Unit {0}
IsEndAt arcs v (Some end) = (end < 2 * length arcs) × (end_node arcs end ≡ v)

-- how many ends may still come
abbrev pub ends_left : Option ℕ → ℕ
ends_left None = 0
ends_left (Some end) = suc end

pub walk_below : (arcs : List ArcRow) (flow : List ℤ) (v n : ℕ) → n ≤ 2 * length arcs
    → (rest_sum arcs flow v (last_end_below arcs v n) ≡ ends_sum arcs flow v n) × IsEndAt arcs v (last_end_below arcs v n) × (ends_left (last_end_below arcs v n) ≤ n)
walk_below arcs flow v zero h = (refl, tt, omega arith)
walk_below arcs flow v (suc end) h = by (end_node arcs end == v) refl (walk_below arcs flow v end (omega arith))
  where
    by : (b : Bool) → (end_node arcs end == v) ≡ b → (rest_sum arcs flow v (last_end_below arcs v end) ≡ ends_sum arcs flow v end) × IsEndAt arcs v (last_end_below arcs v end) × (ends_left (last_end_below arcs v end) ≤ end)
        → (rest_sum arcs flow v (if b then Some end else last_end_below arcs v end) ≡ (if b then end_flow flow end else pos 0) +ℤ ends_sum arcs flow v end)
        × IsEndAt arcs v (if b then Some end else last_end_below arcs v end) × (ends_left (if b then Some end else last_end_below arcs v end) ≤ suc end)
    by true e before = (refl, (omega arith, eqb-true _ v e), omega arith)
    by false e before = let same = before.0 in (omega (arith, linear), before.1, omega (arith, before.2))
