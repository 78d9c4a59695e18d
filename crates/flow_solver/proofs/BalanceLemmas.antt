-- How the excess and the cost of a flow follow it from one change to the next.
use Rattle.std.proofs.Common.{◌≡◌, ◌≢◌, ℕ, zero, suc, ◌+◌, ◌<◌, ◌≤◌, ◌^◌, ◌*◌, ◌%◌, ℤ, pos, ◌+ℤ◌, ◌-ℤ◌, ◌*ℤ◌, neg_ℤ, List, [], ◌∷◌, ◌++◌, length, sym, ap, subst, ◌∙◌, inl, inr, arith, FitsSigned, unsigned_abs, take, mul-le-mul}
use Rattle.std.specs.Prelude.{◌⊎◌, slice_index_or, slice_set}
use Rattle.std.specs.List.{AllPairs}
use Rattle.std.specs.Int.{int_wrap, w64, w128, cast_signed, cast_unsigned}
use lib.IntN.{*ℤ_comm}
use mir.Syntax.{Width}
use mir.Val.{bits}
use mir.ValLaws.{of_z_fits}
use Rattle.std.proofs.lemmas.Int.{ints, int_wrap_fits, int_wrap-add_left, int_wrap-add_right, fits_signed_from_abs, to_z-of_z, unsigned_abs-mul, wrapping_add-bits}
use Rattle.std.proofs.lemmas.Bool.{cases_eq}
use Rattle.std.proofs.lemmas.List.{get_or-set_same, get_or-set_other, get_or_past, get_or_default, length-set, length-take-le, take_more, ext_get_or}
use Rattle.dimacs_text.specs.declared.problem.ArcRow.{ArcRow}
use Rattle.dimacs_text.specs.Lawful.{IsWithin}
use Rattle.network.specs.Flow.{flow_sum, net, total_cost, AllWithinBounds}
use Rattle.network.specs.Instance.{Instance, IsLawful, reduced}
use Rattle.network.proofs.IntegerAlgebra.{linear, mul-sub, neg-mul, sub-mul}
use Rattle.network.proofs.RunningSums.{abs-add}
use Rattle.flow_changes.specs.Limits.{excess_limit}
use Rattle.residual_graph.specs.Residual.{IsPseudoflow, IsRow, IsWithinRow, row_at, number_at}
use Rattle.augmentation.specs.Nodes.{held}
use Rattle.tracked.specs.Touched.{NameChanges}
use Rattle.flow_changes.specs.Push.{AreSmall, IsExcess, only_at}
use Rattle.flow_solver.specs.Balance.{IsCarried, IsRaised, IsWrappedCost, IsWrappedExcess, gain}
use Rattle.residual_graph.proofs.Pseudoflows.{flow_of_instance}
use Rattle.flow_solver.proofs.ExcessLemmas.{at_zero, excess_small}
use Rattle.flow_changes.proofs.PushLemmas.{at_same, at_other}

-- ---- the table

-- a wrapping sum, where what is added is what is left of b
pub wrapped_onto : (w : Width) (a b : ℤ) (n : ℕ) → FitsSigned w a → n < 2 ^ bits w → cast_signed w n ≡ int_wrap w b → cast_signed w ((cast_unsigned w a + n) % 2 ^ bits w) ≡ int_wrap w (a +ℤ b)
wrapped_onto w a b n fits small is =
    wrapping_add-bits w (cast_unsigned w a) n (of_z_fits w a fits).fits small
    ∙ (λ i. int_wrap w (to_z-of_z w a fits i +ℤ is i))
    ∙ int_wrap-add_right w a b

pub IsRaised-put : (u : ℕ) (before after z : ℤ) (e : List ℤ) → u < length e → z ≡ int_wrap w64 (number_at e u +ℤ (after -ℤ before)) → IsRaised u before after e (slice_set e u z)
IsRaised-put u before after z e u_in is = record {
  same_length = length-set e u z;
  by_node = λ numbers held v. (elim (cases_eq v u) [
    | inl same ↦ subst (λ (q : ℕ). number_at (slice_set e u z) q ≡ int_wrap w64 (numbers q +ℤ only_at u (after -ℤ before) q)) (sym same)
        (get_or-set_same e u z (pos 0) u_in ∙ is ∙ ap (λ (n : ℤ). int_wrap w64 (n +ℤ (after -ℤ before))) (held u)
        ∙ int_wrap-add_left w64 (numbers u) (after -ℤ before) ∙ ap (λ (n : ℤ). int_wrap w64 (numbers u +ℤ n)) (sym (at_same u (after -ℤ before))))
    | inr ne ↦ get_or-set_other e u v z (pos 0) ne ∙ held v
        ∙ ap (int_wrap w64) (let none = at_other u (after -ℤ before) v ne in omega (arith, ints))
  ]);
}

only_at-sub : (u : ℕ) (m n : ℤ) (v : ℕ) → only_at u (m -ℤ n) v ≡ only_at u m v -ℤ only_at u n v
only_at-sub u m n v = grind (arith, ints)

-- what is carried over is taken from the tail and added to the head
pub IsCarried-both : (row : ArcRow) (before after : ℤ) (e g f : List ℤ) → IsRaised row.tail after before e g → IsRaised row.head before after g f → IsCarried row before after e f
IsCarried-both row before after e g f first second = record {
  same_length = second.same_length ∙ first.same_length;
  by_node = λ numbers held v. second.by_node (λ w. numbers w +ℤ only_at row.tail (before -ℤ after) w) (first.by_node numbers held) v
      ∙ ap (int_wrap w64) (let there = only_at-sub row.tail before after v in let back = only_at-sub row.tail after before v in omega (arith, ints));
}

-- ---- sums at one place

flow_sum-set : (g : ArcRow → ℤ → ℤ) (arcs : List ArcRow) (x : List ℤ) (k : ℕ) (y : ℤ) → k < length arcs → length x ≡ length arcs → flow_sum g arcs (slice_set x k y) ≡ flow_sum g arcs x +ℤ (g (row_at arcs k) y -ℤ g (row_at arcs k) (number_at x k))
flow_sum-set g (a ∷ arcs) (z ∷ x) zero y lt sized = omega (arith, linear)
flow_sum-set g (a ∷ arcs) (z ∷ x) (suc k) y lt sized = (let rest = flow_sum-set g arcs x k y (omega arith) (omega arith) in omega (arith, linear))
flow_sum-set g _ _ k y lt sized = absurd (omega arith)

flow_sum-set_row : (g : ArcRow → ℤ → ℤ) (arcs : List ArcRow) (x : List ℤ) (k : ℕ) (row : ArcRow) → k < length arcs → length x ≡ length arcs → flow_sum g (slice_set arcs k row) x ≡ flow_sum g arcs x +ℤ (g row (number_at x k) -ℤ g (row_at arcs k) (number_at x k))
flow_sum-set_row g (a ∷ arcs) (z ∷ x) zero row lt sized = omega (arith, linear)
flow_sum-set_row g (a ∷ arcs) (z ∷ x) (suc k) row lt sized = (let rest = flow_sum-set_row g arcs x k row (omega arith) (omega arith) in omega (arith, linear))
flow_sum-set_row g _ _ k row lt sized = absurd (omega arith)

flow_sum-push : (g : ArcRow → ℤ → ℤ) (arcs : List ArcRow) (x : List ℤ) (row : ArcRow) (y : ℤ) → length x ≡ length arcs → flow_sum g (arcs ++ row ∷ []) (x ++ y ∷ []) ≡ flow_sum g arcs x +ℤ g row y
flow_sum-push g [] [] row y sized = omega (arith, linear)
flow_sum-push g (a ∷ arcs) (z ∷ x) row y sized = (let rest = flow_sum-push g arcs x row y (omega arith) in omega (arith, linear))
flow_sum-push g _ _ row y sized = absurd (omega arith)

-- ---- the excess

-- what a node of an arc sends and receives
abbrev leaves : ℕ → ArcRow → ℤ → ℤ
leaves v row m = only_at row.tail m v

abbrev comes : ℕ → ArcRow → ℤ → ℤ
comes v row m = only_at row.head m v

gain-sub : (row : ArcRow) (m n : ℤ) (v : ℕ) → gain row (m -ℤ n) v ≡ gain row m v -ℤ gain row n v
gain-sub row m n v = (let out = only_at-sub row.tail m n v in let in_ = only_at-sub row.head m n v in omega (arith, ints))

gain-zero : (row : ArcRow) (v : ℕ) → gain row (pos 0) v ≡ pos 0
gain-zero row v = (let out = at_zero row.tail v in let in_ = at_zero row.head v in omega (arith, ints))

pub net-set : (arcs : List ArcRow) (x : List ℤ) (k v : ℕ) (y : ℤ) → k < length arcs → length x ≡ length arcs → net arcs (slice_set x k y) v ≡ net arcs x v -ℤ gain (row_at arcs k) (y -ℤ number_at x k) v
net-set arcs x k v y lt sized =
    let out = flow_sum-set (leaves v) arcs x k y lt sized in
    let in_ = flow_sum-set (comes v) arcs x k y lt sized in
    let both = gain-sub (row_at arcs k) y (number_at x k) v in
    omega (arith, ints)

pub net-push : (arcs : List ArcRow) (x : List ℤ) (row : ArcRow) (v : ℕ) (y : ℤ) → length x ≡ length arcs → net (arcs ++ row ∷ []) (x ++ y ∷ []) v ≡ net arcs x v -ℤ gain row y v
net-push arcs x row v y sized =
    let out = flow_sum-push (leaves v) arcs x row y sized in
    let in_ = flow_sum-push (comes v) arcs x row y sized in
    omega (arith, ints)

pub net-set_row : (arcs : List ArcRow) (x : List ℤ) (k v : ℕ) (row : ArcRow) → k < length arcs → length x ≡ length arcs → row.tail ≡ (row_at arcs k).tail → row.head ≡ (row_at arcs k).head → net (slice_set arcs k row) x v ≡ net arcs x v
net-set_row arcs x k v row lt sized tail head =
    let out = flow_sum-set_row (leaves v) arcs x k row lt sized in
    let in_ = flow_sum-set_row (comes v) arcs x k row lt sized in
    let same_out = ap (λ (u : ℕ). only_at u (number_at x k) v) tail in
    let same_in = ap (λ (u : ℕ). only_at u (number_at x k) v) head in
    omega (arith, ints)

-- the flow of one arc changes
pub excess_set : (arcs : List ArcRow) (supply : ℕ → ℤ) (x e f : List ℤ) (k : ℕ) (y : ℤ) → k < length arcs → length x ≡ length arcs → IsCarried (row_at arcs k) (number_at x k) y e f → IsWrappedExcess arcs supply x e → IsWrappedExcess arcs supply (slice_set x k y) f
excess_set arcs supply x e f k y lt sized carried is v =
    carried.by_node (λ w. supply w -ℤ net arcs x w) is v
    ∙ ap (int_wrap w64) (let moved = net-set arcs x k v y lt sized in omega (arith, ints))

-- another row with the same ends
pub excess_row : (arcs : List ArcRow) (supply : ℕ → ℤ) (x e : List ℤ) (k : ℕ) (row : ArcRow) → k < length arcs → length x ≡ length arcs → row.tail ≡ (row_at arcs k).tail → row.head ≡ (row_at arcs k).head → IsWrappedExcess arcs supply x e → IsWrappedExcess (slice_set arcs k row) supply x e
excess_row arcs supply x e k row lt sized tail head is v = is v ∙ ap (λ (n : ℤ). int_wrap w64 (supply v -ℤ n)) (sym (net-set_row arcs x k v row lt sized tail head))

-- one more arc, with its flow
pub excess_last : (arcs : List ArcRow) (supply : ℕ → ℤ) (x e f : List ℤ) (row : ArcRow) (y : ℤ) → length x ≡ length arcs → IsCarried row (pos 0) y e f → IsWrappedExcess arcs supply x e → IsWrappedExcess (arcs ++ row ∷ []) supply (x ++ y ∷ []) f
excess_last arcs supply x e f row y sized carried is v =
    carried.by_node (λ w. supply w -ℤ net arcs x w) is v
    ∙ ap (int_wrap w64) (let more = net-push arcs x row v y sized in let all = gain-sub row y (pos 0) v in let none = gain-zero row v in omega (arith, ints))

-- the last arc is taken off
pub excess_first : (arcs : List ArcRow) (supply : ℕ → ℤ) (x e f : List ℤ) (row : ArcRow) (y : ℤ) → length x ≡ length arcs → IsCarried row y (pos 0) e f → IsWrappedExcess (arcs ++ row ∷ []) supply (x ++ y ∷ []) e → IsWrappedExcess arcs supply x f
excess_first arcs supply x e f row y sized carried is v =
    carried.by_node (λ w. supply w -ℤ net (arcs ++ row ∷ []) (x ++ y ∷ []) w) is v
    ∙ ap (int_wrap w64) (let more = net-push arcs x row v y sized in let all = gain-sub row (pos 0) y v in let none = gain-zero row v in omega (arith, ints))

-- one node has another supply
pub excess_supplied : (arcs : List ArcRow) (supply supply' : ℕ → ℤ) (x e f : List ℤ) (u : ℕ) (before after : ℤ) → ((v : ℕ) → supply' v ≡ supply v +ℤ only_at u (after -ℤ before) v) → IsRaised u before after e f → IsWrappedExcess arcs supply x e → IsWrappedExcess arcs supply' x f
excess_supplied arcs supply supply' x e f u before after other raised is v =
    raised.by_node (λ w. supply w -ℤ net arcs x w) is v
    ∙ ap (int_wrap w64) (let here = other v in omega (arith, ints))

pub record IsExactExcess (arcs : List ArcRow) (supply : ℕ → ℤ) (x e : List ℤ) : Type 0 where
  pub excess : IsExcess arcs supply x e
  pub small : AreSmall e

-- of a flow within its bounds the excess fits, and so it is exact
pub excess_exact : (I : Instance) (rows : List ArcRow) (x e : List ℤ) → IsLawful I → rows ≡ (reduced I).arcs → AllWithinBounds rows x → IsWrappedExcess rows (held I.nodes (reduced I).supply) x e → IsExactExcess rows (held I.nodes (reduced I).supply) x e
excess_exact I rows x e lawful same bounds is = record { excess = exact; small = record { low = λ v. omega (arith, ints, exact v, (small v).0); high = λ v. omega (arith, ints, exact v, (small v).1) } }
  where
    small : (v : ℕ) → IsWithin (pos excess_limit) (held I.nodes (reduced I).supply v -ℤ net rows x v)
    small v = rw same (excess_small I x v lawful (rw same at bounds))

    exact : IsExcess rows (held I.nodes (reduced I).supply) x e
    exact v = (let z = held I.nodes (reduced I).supply v -ℤ net rows x v in is v ∙ int_wrap_fits w64 z (fits_signed_from_abs w64 z (omega (arith, ints, (small v).0, (small v).1))))

-- ---- the first arcs

more_rows : (arcs : List ArcRow) (k : ℕ) → k < length arcs → take (k + 1) arcs ≡ take k arcs ++ row_at arcs k ∷ []
more_rows arcs k lt = take_more arcs k _ lt

more_flows : (x : List ℤ) (k : ℕ) → k < length x → take (k + 1) x ≡ take k x ++ number_at x k ∷ []
more_flows x k lt = take_more x k _ lt

as_many_first : (arcs : List ArcRow) (x : List ℤ) (k : ℕ) → k < length arcs → length x ≡ length arcs → length (take k x) ≡ length (take k arcs)
as_many_first arcs x k lt sized = omega (arith, length-take-le k arcs (omega arith), length-take-le k x (omega arith))

pub wrapped_excess_more : (arcs : List ArcRow) (supply : ℕ → ℤ) (x e f : List ℤ) (k : ℕ) → k < length arcs → length x ≡ length arcs → IsCarried (row_at arcs k) (pos 0) (number_at x k) e f → IsWrappedExcess (take k arcs) supply (take k x) e → IsWrappedExcess (take (k + 1) arcs) supply (take (k + 1) x) f
wrapped_excess_more arcs supply x e f k lt sized carried is =
    rw (more_rows arcs k lt, more_flows x k (omega arith))
    (excess_last (take k arcs) supply (take k x) e f (row_at arcs k) (number_at x k) (as_many_first arcs x k lt sized) carried is)

-- ---- the cost

-- what is added to a wrapped number is added to the number
wrapped_more : (w : Width) (n z m y : ℤ) → n ≡ int_wrap w z → y ≡ z +ℤ m → int_wrap w (n +ℤ m) ≡ int_wrap w y
wrapped_more w n z m y n_is y_is = ap (λ (a : ℤ). int_wrap w (a +ℤ m)) n_is ∙ int_wrap-add_left w z m ∙ ap (int_wrap w) (sym y_is)

abbrev price : ArcRow → ℤ → ℤ
price row m = row.cost *ℤ m

-- the flow of one arc changes
pub cost_set : (arcs : List ArcRow) (x : List ℤ) (cost result : ℤ) (k : ℕ) (y : ℤ) → k < length arcs → length x ≡ length arcs → result ≡ int_wrap w128 (cost +ℤ (y -ℤ number_at x k) *ℤ (row_at arcs k).cost) → IsWrappedCost arcs x cost → IsWrappedCost arcs (slice_set x k y) result
cost_set arcs x cost result k y lt sized result_is is =
    let c = (row_at arcs k).cost in
    result_is ∙ wrapped_more w128 cost (total_cost arcs x) ((y -ℤ number_at x k) *ℤ c) (total_cost arcs (slice_set x k y)) is
    (flow_sum-set price arcs x k y lt sized ∙ ap (λ (m : ℤ). total_cost arcs x +ℤ m) (sym (mul-sub c y (number_at x k)) ∙ *ℤ_comm c (y -ℤ number_at x k)))

-- an arc has another row
pub cost_row : (arcs : List ArcRow) (x : List ℤ) (cost result : ℤ) (k : ℕ) (row : ArcRow) → k < length arcs → length x ≡ length arcs → result ≡ int_wrap w128 (cost +ℤ (row.cost -ℤ (row_at arcs k).cost) *ℤ number_at x k) → IsWrappedCost arcs x cost → IsWrappedCost (slice_set arcs k row) x result
cost_row arcs x cost result k row lt sized result_is is =
    result_is ∙ wrapped_more w128 cost (total_cost arcs x) ((row.cost -ℤ (row_at arcs k).cost) *ℤ number_at x k) (total_cost (slice_set arcs k row) x) is
    (flow_sum-set_row price arcs x k row lt sized ∙ ap (λ (m : ℤ). total_cost arcs x +ℤ m) (sym (sub-mul row.cost (row_at arcs k).cost (number_at x k))))

from_zero : (y c : ℤ) → (y -ℤ pos 0) *ℤ c ≡ c *ℤ y
from_zero y c = (let same : y -ℤ pos 0 ≡ y = omega (arith, ints) in ap (λ (m : ℤ). m *ℤ c) same ∙ *ℤ_comm y c)

to_zero : (y c : ℤ) → (pos 0 -ℤ y) *ℤ c ≡ neg_ℤ (c *ℤ y)
to_zero y c = (let same : pos 0 -ℤ y ≡ neg_ℤ y = omega (arith, ints) in ap (λ (m : ℤ). m *ℤ c) same ∙ neg-mul y c ∙ ap neg_ℤ (*ℤ_comm y c))

-- one more arc, with its flow
pub cost_last : (arcs : List ArcRow) (x : List ℤ) (cost result : ℤ) (row : ArcRow) (y : ℤ) → length x ≡ length arcs → result ≡ int_wrap w128 (cost +ℤ (y -ℤ pos 0) *ℤ row.cost) → IsWrappedCost arcs x cost → IsWrappedCost (arcs ++ row ∷ []) (x ++ y ∷ []) result
cost_last arcs x cost result row y sized result_is is =
    result_is ∙ wrapped_more w128 cost (total_cost arcs x) ((y -ℤ pos 0) *ℤ row.cost) (total_cost (arcs ++ row ∷ []) (x ++ y ∷ [])) is
    (flow_sum-push price arcs x row y sized ∙ ap (λ (m : ℤ). total_cost arcs x +ℤ m) (sym (from_zero y row.cost)))

-- the last arc is taken off
pub cost_first : (arcs : List ArcRow) (x : List ℤ) (cost result : ℤ) (row : ArcRow) (y : ℤ) → length x ≡ length arcs → result ≡ int_wrap w128 (cost +ℤ (pos 0 -ℤ y) *ℤ row.cost) → IsWrappedCost (arcs ++ row ∷ []) (x ++ y ∷ []) cost → IsWrappedCost arcs x result
cost_first arcs x cost result row y sized result_is is =
    result_is ∙ wrapped_more w128 cost (total_cost (arcs ++ row ∷ []) (x ++ y ∷ [])) ((pos 0 -ℤ y) *ℤ row.cost) (total_cost arcs x) is
    (let more = flow_sum-push price arcs x row y sized in let less = to_zero y row.cost in omega (arith, linear))

pub cost_more : (arcs : List ArcRow) (x : List ℤ) (cost result : ℤ) (k : ℕ) → k < length arcs → length x ≡ length arcs → result ≡ int_wrap w128 (cost +ℤ (number_at x k -ℤ pos 0) *ℤ (row_at arcs k).cost) → IsWrappedCost (take k arcs) (take k x) cost → IsWrappedCost (take (k + 1) arcs) (take (k + 1) x) result
cost_more arcs x cost result k lt sized result_is is =
    rw (more_rows arcs k lt, more_flows x k (omega arith))
    (cost_last (take k arcs) (take k x) cost result (row_at arcs k) (number_at x k) (as_many_first arcs x k lt sized) result_is is)

-- no arc costs more than 10^26
total_bound : (nodes : ℕ) (arcs : List ArcRow) (x : List ℤ) → length x ≡ length arcs → ((k : ℕ) → k < length arcs → IsRow nodes (row_at arcs k)) → ((k : ℕ) → k < length arcs → IsWithinRow (row_at arcs k) (number_at x k)) → unsigned_abs (total_cost arcs x) ≤ 10 ^ 12 * 10 ^ 14 * length arcs
total_bound nodes [] [] sized rows within = omega arith
total_bound nodes (a ∷ arcs) (y ∷ x) sized rows within =
    let row : IsRow nodes a = rows 0 (omega arith) in
    let bounds : IsWithinRow a y = within 0 (omega arith) in
    let cost : unsigned_abs a.cost ≤ 10 ^ 12 = omega (arith, ints, row.cost_low, row.cost_high) in
    let flow : unsigned_abs y ≤ 10 ^ 14 = omega (arith, ints, row.low_at_least_0, row.cap_in, bounds.low_kept, bounds.cap_kept) in
    let here : unsigned_abs a.cost * unsigned_abs y ≤ 10 ^ 12 * 10 ^ 14 = mul-le-mul cost flow in
    let rest = total_bound nodes arcs x (omega arith) (λ k lt. rows (suc k) (omega arith)) (λ k lt. within (suc k) (omega arith)) in
    let both = abs-add (a.cost *ℤ y) (total_cost arcs x) in
    let product = unsigned_abs-mul a.cost y in
    omega arith
total_bound nodes _ _ sized rows within = absurd (omega arith)

pub cost_exact : (I : Instance) (rows : List ArcRow) (x : List ℤ) (cost : ℤ) → IsLawful I → rows ≡ (reduced I).arcs → AllWithinBounds rows x → IsWrappedCost rows x cost → cost ≡ total_cost rows x
cost_exact I rows x cost lawful same bounds is =
    let flow : IsPseudoflow (I.nodes + 1) rows x = rw same (flow_of_instance I x lawful (rw same at bounds)) in
    let most = total_bound (I.nodes + 1) rows x flow.same_length flow.rows flow.within in
    is ∙ int_wrap_fits w128 (total_cost rows x) (fits_signed_from_abs w128 (total_cost rows x) (omega (arith, most, flow.few_arcs)))

-- ---- part of the way from one table to another

-- z holds the numbers of `after` at the first j places, and those of `before` at all others
pub record IsPartWay (places : List ℕ) (before after : List ℤ) (j : ℕ) (z : List ℤ) : Type 0 where
  pub same_length : length z ≡ length before
  pub taken : (i : ℕ) → i < j → number_at z (slice_index_or places i 0) ≡ number_at after (slice_index_or places i 0)
  pub others : (k : ℕ) → ((i : ℕ) → i < j → slice_index_or places i 0 ≢ k) → number_at z k ≡ number_at before k

module _ (places : List ℕ) (before after : List ℤ) (j : ℕ) (z : List ℤ) (j_in : j < length places) (apart : AllPairs ◌≢◌ places) (part : IsPartWay places before after j z) where
  -- the next place has not been taken yet
  pub next_is : number_at z (slice_index_or places j 0) ≡ number_at before (slice_index_or places j 0)
  next_is = part.others (slice_index_or places j 0) (λ i lt. apart i j 0 lt j_in)

  pub part_step : slice_index_or places j 0 < length before → IsPartWay places before after (j + 1) (slice_set z (slice_index_or places j 0) (number_at after (slice_index_or places j 0)))
  part_step place_in = record {
    same_length = length-set z (slice_index_or places j 0) _ ∙ part.same_length;
    taken = λ i lt. (elim (cases_eq i j) [
      | inl same ↦ subst (λ (q : ℕ). number_at (slice_set z (slice_index_or places j 0) (number_at after (slice_index_or places j 0))) (slice_index_or places q 0) ≡ number_at after (slice_index_or places q 0)) (sym same)
          (get_or-set_same z (slice_index_or places j 0) _ (pos 0) (omega (arith, part.same_length)))
      | inr ne ↦ get_or-set_other z (slice_index_or places j 0) (slice_index_or places i 0) _ (pos 0) (apart i j 0 (omega arith) j_in) ∙ part.taken i (omega arith)
    ]);
    others = λ k none. get_or-set_other z (slice_index_or places j 0) k _ (pos 0) (λ same. none j (omega arith) (sym same)) ∙ part.others k (λ i lt. none i (omega arith));
  }

  -- at a place past the end both tables hold nothing
  pub part_past : length before ≤ slice_index_or places j 0 → length after ≡ length before → IsPartWay places before after (j + 1) z
  part_past past sized = record {
    same_length = part.same_length;
    taken = λ i lt. (elim (cases_eq i j) [
      | inl same ↦ subst (λ (q : ℕ). number_at z (slice_index_or places q 0) ≡ number_at after (slice_index_or places q 0)) (sym same)
          (get_or_past z (slice_index_or places j 0) (pos 0) (omega (arith, part.same_length)) ∙ sym (get_or_past after (slice_index_or places j 0) (pos 0) (omega arith)))
      | inr ne ↦ part.taken i (omega arith)
    ]);
    others = λ k none. part.others k (λ i lt. none i (omega arith));
  }

  -- what follows the flow of the arc at the next place
  pub cost_step : (arcs : List ArcRow) (cost result : ℤ) → length before ≡ length arcs → slice_index_or places j 0 < length arcs → result ≡ int_wrap w128 (cost +ℤ (number_at after (slice_index_or places j 0) -ℤ number_at before (slice_index_or places j 0)) *ℤ (row_at arcs (slice_index_or places j 0)).cost) → IsWrappedCost arcs z cost → IsWrappedCost arcs (slice_set z (slice_index_or places j 0) (number_at after (slice_index_or places j 0))) result
  cost_step arcs cost result sized lt result_is is =
      cost_set arcs z cost result (slice_index_or places j 0) (number_at after (slice_index_or places j 0)) lt (part.same_length ∙ sized)
      (result_is ∙ ap (λ (m : ℤ). int_wrap w128 (cost +ℤ (number_at after (slice_index_or places j 0) -ℤ m) *ℤ (row_at arcs (slice_index_or places j 0)).cost)) (sym next_is)) is

  pub excess_step : (arcs : List ArcRow) (supply : ℕ → ℤ) (e f : List ℤ) → length before ≡ length arcs → slice_index_or places j 0 < length arcs → IsCarried (row_at arcs (slice_index_or places j 0)) (number_at before (slice_index_or places j 0)) (number_at after (slice_index_or places j 0)) e f → IsWrappedExcess arcs supply z e → IsWrappedExcess arcs supply (slice_set z (slice_index_or places j 0) (number_at after (slice_index_or places j 0))) f
  excess_step arcs supply e f sized lt carried is =
      excess_set arcs supply z e f (slice_index_or places j 0) (number_at after (slice_index_or places j 0)) lt (part.same_length ∙ sized)
      (subst (λ (m : ℤ). IsCarried (row_at arcs (slice_index_or places j 0)) m (number_at after (slice_index_or places j 0)) e f) (sym next_is) carried) is

-- whether a place is among the first j
placed_or_not : (places : List ℕ) (j k : ℕ) → ((i : ℕ) × (i < j) × (slice_index_or places i 0 ≡ k)) ⊎ ((i : ℕ) → i < j → slice_index_or places i 0 ≢ k)
placed_or_not places zero k = inr (λ i lt. absurd (omega (arith, lt)))
placed_or_not places (suc j) k = elim (cases_eq (slice_index_or places j 0) k) [
  | inl same ↦ inl (j, omega arith, same)
  | inr other ↦ elim (placed_or_not places j k) [
    | inl at ↦ inl (at.0, omega (arith, at.1), at.2)
    | inr none ↦ inr (λ i lt same. elim (cases_eq i j) [
      | inl last ↦ other (subst (λ (q : ℕ). slice_index_or places q 0 ≡ k) last same)
      | inr ne ↦ none i (omega (arith, lt, ne)) same
    ])
  ]
]

-- at the end of the way the tables agree, where the places name each one at which they differ
pub part_ends : (places : List ℕ) (before after : List ℤ) (j : ℕ) (z : List ℤ) → length places ≤ j → length after ≡ length before → NameChanges 0 places before after → IsPartWay places before after j z → z ≡ after
part_ends places before after j z all sized named part =
    ext_get_or (pos 0) z after (part.same_length ∙ sym sized) (λ k lt. elim (placed_or_not places j k) [
      | inl at ↦ subst (λ (q : ℕ). number_at z q ≡ number_at after q) at.2 (part.taken at.0 at.1)
      | inr none ↦ elim (named k (omega (arith, lt, part.same_length))) [
        | inl any ↦ absurd (none any.0 (omega (arith, any.2, all)) (get_or_default places any.0 0 any.1 any.2 ∙ any.3 ∙ (omega (arith, any.4))))
        | inr agree ↦ part.others k none ∙ sym (agree (pos 0))
      ]
    ])

-- what names the changes from one table to another names those back
pub named_back : (places : List ℕ) (xs ys : List ℤ) → length xs ≡ length ys → NameChanges 0 places xs ys → NameChanges 0 places ys xs
named_back places xs ys sized named = λ k lt. elim (named k (omega (arith, lt, sized))) [
  | inl any ↦ inl any
  | inr agree ↦ inr (λ d. sym (agree d))
]
