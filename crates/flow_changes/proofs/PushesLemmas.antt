-- Pushes, one or more in turn: what they leave of what lies in excess and in deficit.
use Rattle.std.proofs.Common.{◌≡◌, ◌≢◌, ℕ, zero, suc, ◌+◌, ◌<◌, ◌≤◌, ℤ, pos, negsuc, neg_ℤ, ◌-ℤ◌, ◌+ℤ◌, ◌≤ℤ◌, List, [], ◌∷◌, length, map, refl, sym, ap, subst, ◌∙◌, inl, inr, arith}
use Rattle.std.specs.Prelude.{◌<ℤ◌}
use Rattle.std.specs.List.{AllPairs}
use Rattle.std.proofs.lemmas.Int.{ints}
use Rattle.std.proofs.lemmas.Bool.{cases_eq, cases_lt}
use Rattle.std.proofs.lemmas.List.{get_or_past, length-map}
use Rattle.std.proofs.lemmas.List.Sums.{sum_by-cons}
use Rattle.dimacs_text.specs.declared.problem.ArcRow.{ArcRow}
use Rattle.network.specs.Flow.{net}
use Rattle.residual_graph.specs.declared.residual.ResidualArc.{ResidualArc}
use Rattle.residual_graph.specs.Residual.{IsPseudoflow, number_at}
use Rattle.flow_changes.specs.Limits.{excess_limit}
use Rattle.flow_changes.specs.Push.{AreSmall, ArePushes, HasRoom, IsExcess, IsPath, IsPush, IsTransfer, Pushes, lack, left, nodes_on, only_at, part_above_0, push_along}
use Rattle.flow_changes.proofs.PushLemmas.{AreApart, IsFlow-along, IsShift-along, at_other, at_same, net-along}

-- ---- what lies in excess and in deficit

pub number_at-neg : (e : List ℤ) (v : ℕ) → number_at (map neg_ℤ e) v ≡ neg_ℤ (number_at e v)
number_at-neg [] v = refl
number_at-neg (z ∷ e) zero = refl
number_at-neg (z ∷ e) (suc v) = number_at-neg e v

-- what lies in excess, where each number is negated, is lacking here
pub left-neg : (e : List ℤ) → left (map neg_ℤ e) ≡ lack e
left-neg [] = refl
left-neg (z ∷ e) = omega (arith, sum_by-cons part_above_0 (neg_ℤ z) (map neg_ℤ e), sum_by-cons (λ (y : ℤ). part_above_0 (neg_ℤ y)) z e, left-neg e)

pub part_above_0-mono : (a b : ℤ) → (pos 0 <ℤ a → a ≤ℤ b) → part_above_0 a ≤ part_above_0 b
part_above_0-mono (pos zero) b h = omega arith
part_above_0-mono (pos (suc n)) (pos m) h = omega (arith, ints, h (omega (arith, ints)))
part_above_0-mono (pos (suc n)) (negsuc m) h = omega (arith, ints, h (omega (arith, ints)))
part_above_0-mono (negsuc n) b h = omega arith

pub part_above_0-less : (a b : ℤ) → pos 0 <ℤ b → a <ℤ b → part_above_0 a < part_above_0 b
part_above_0-less (pos n) (pos m) h g = omega (arith, ints)
part_above_0-less (negsuc n) (pos m) h g = omega (arith, ints)
part_above_0-less a (negsuc m) h g = absurd (omega (arith, ints))

pub left-mono : (e f : List ℤ) → length f ≡ length e → ((v : ℕ) → part_above_0 (number_at f v) ≤ part_above_0 (number_at e v)) → left f ≤ left e
left-mono [] [] sized le = omega arith
left-mono [] (y ∷ f) sized le = absurd (omega arith)
left-mono (x ∷ e) [] sized le = absurd (omega arith)
left-mono (x ∷ e) (y ∷ f) sized le =
    omega (arith, sum_by-cons part_above_0 x e, sum_by-cons part_above_0 y f, le 0, left-mono e f (omega arith) (λ v. le (suc v)))

pub left-less : (e f : List ℤ) (u : ℕ) → length f ≡ length e → u < length e → ((v : ℕ) → part_above_0 (number_at f v) ≤ part_above_0 (number_at e v)) → part_above_0 (number_at f u) < part_above_0 (number_at e u) → left f < left e
left-less [] f u sized lt le less = absurd (omega arith)
left-less (x ∷ e) [] u sized lt le less = absurd (omega arith)
left-less (x ∷ e) (y ∷ f) zero sized lt le less =
    omega (arith, sum_by-cons part_above_0 x e, sum_by-cons part_above_0 y f, less, left-mono e f (omega arith) (λ v. le (suc v)))
left-less (x ∷ e) (y ∷ f) (suc u) sized lt le less =
    omega (arith, sum_by-cons part_above_0 x e, sum_by-cons part_above_0 y f, le 0, left-less e f u (omega arith) (omega arith) (λ v. le (suc v)) less)

-- ---- one push

-- a flow within the bounds, and what lies in excess
pub record IsMoving (nodes : ℕ) (arcs : List ArcRow) (x e : List ℤ) : Type 0 where
  pub flow : IsPseudoflow nodes arcs x
  pub excess_sized : length e ≡ nodes
  pub small : AreSmall e

-- a path on which m more fits
pub record IsRoom (arcs : List ArcRow) (x : List ℤ) (m : ℤ) (hops : List ResidualArc) (root t : ℕ) : Type 0 where
  pub leads : IsPath arcs hops root t
  pub simple : AllPairs ◌≢◌ (nodes_on arcs hops root)
  pub apart : AreApart arcs hops
  pub room : HasRoom arcs x m hops

-- flow moved along a path from a node in excess to a node in deficit
module _ (nodes : ℕ) (arcs : List ArcRow) (x e : List ℤ) (hops : List ResidualArc) (root t : ℕ) (m : ℤ) (f : List ℤ)
    (state : IsMoving nodes arcs x e) (is : IsRoom arcs x m hops root t)
    (at_least_1 : pos 1 ≤ℤ m) (root_in : root < nodes) (in_excess : m ≤ℤ number_at e root) (in_deficit : number_at e t ≤ℤ neg_ℤ m)
    (transfer : IsTransfer root t m e f)
  where
    apart : root ≡ t → ⊥
    apart same = (let equal : number_at e root ≡ number_at e t = ap (number_at e) same in omega (arith, ints, in_excess, at_least_1, in_deficit, equal))

    f_root : number_at f root ≡ number_at e root -ℤ m
    f_root = omega (arith, ints, transfer.by_node root, at_same root m, at_other t m root apart)

    f_target : number_at f t ≡ number_at e t +ℤ m
    f_target = omega (arith, ints, transfer.by_node t, at_same t m, at_other root m t (λ h. apart (sym h)))

    f_other : (v : ℕ) → (v ≡ root → ⊥) → (v ≡ t → ⊥) → number_at f v ≡ number_at e v
    f_other v not_root not_target = omega (arith, ints, transfer.by_node v, at_other root m v not_root, at_other t m v not_target)

    by_three : (P : ℕ → Type 0) → P root → P t → ((v : ℕ) → number_at f v ≡ number_at e v → P v) → (v : ℕ) → P v
    by_three P at_root at_target elsewhere v = elim (cases_eq v root) [
      | inl same ↦ subst P (sym same) at_root
      | inr not_root ↦ (elim (cases_eq v t) [
        | inl same ↦ subst P (sym same) at_target
        | inr not_target ↦ elsewhere v (f_other v not_root not_target)
      ])
    ]

    small_after : AreSmall f
    small_after = record {
      low = by_three (λ v. neg_ℤ (pos excess_limit) ≤ℤ number_at f v) (omega (arith, ints, f_root, in_excess)) (omega (arith, ints, f_target, state.small.low t, at_least_1)) (λ v same. omega (arith, ints, same, state.small.low v));
      high = by_three (λ v. number_at f v ≤ℤ pos excess_limit) (omega (arith, ints, f_root, state.small.high root, at_least_1)) (omega (arith, ints, f_target, in_deficit)) (λ v same. omega (arith, ints, same, state.small.high v));
    }

    left_falls : left f < left e
    left_falls =
        left-less e f root transfer.same_length (omega (arith, root_in, state.excess_sized))
        (by_three (λ v. part_above_0 (number_at f v) ≤ part_above_0 (number_at e v))
        (part_above_0-mono (number_at f root) (number_at e root) (λ h. omega (arith, ints, f_root, at_least_1)))
        (part_above_0-mono (number_at f t) (number_at e t) (λ h. absurd (omega (arith, ints, h, f_target, in_deficit))))
        (λ v same. part_above_0-mono (number_at f v) (number_at e v) (λ h. omega (arith, ints, same))))
        (part_above_0-less (number_at f root) (number_at e root) (omega (arith, ints, in_excess, at_least_1)) (omega (arith, ints, f_root, at_least_1)))

    -- the target is in deficit, so it is one of the nodes
    target_in : t < length e
    target_in = elim (cases_lt t (length e)) [
      | inl lt ↦ lt
      | inr past ↦ absurd (let nothing : number_at e t ≡ pos 0 = get_or_past e t (pos 0) past in omega (arith, ints, nothing, in_deficit, at_least_1))
    ]

    lack_falls : lack f < lack e
    lack_falls =
        let lower = left-less (map neg_ℤ e) (map neg_ℤ f) t (omega (arith, length-map e neg_ℤ, length-map f neg_ℤ, transfer.same_length)) (omega (arith, length-map e neg_ℤ, target_in))
        (by_three (λ v. part_above_0 (number_at (map neg_ℤ f) v) ≤ part_above_0 (number_at (map neg_ℤ e) v))
        (part_above_0-mono (number_at (map neg_ℤ f) root) (number_at (map neg_ℤ e) root) (λ h. absurd (omega (arith, ints, h, number_at-neg f root, f_root, in_excess))))
        (part_above_0-mono (number_at (map neg_ℤ f) t) (number_at (map neg_ℤ e) t) (λ h. omega (arith, ints, number_at-neg f t, number_at-neg e t, f_target, at_least_1)))
        (λ v same. part_above_0-mono (number_at (map neg_ℤ f) v) (number_at (map neg_ℤ e) v) (λ h. omega (arith, ints, number_at-neg f v, number_at-neg e v, same))))
        (part_above_0-less (number_at (map neg_ℤ f) t) (number_at (map neg_ℤ e) t) (omega (arith, ints, number_at-neg e t, in_deficit, at_least_1)) (omega (arith, ints, number_at-neg f t, number_at-neg e t, f_target, at_least_1))) in
        omega (arith, lower, left-neg e, left-neg f)

    net_after : (v : ℕ) → net arcs (push_along hops m x) v ≡ (net arcs x v +ℤ only_at root m v) -ℤ only_at t m v
    net_after v = net-along arcs hops m x root t v is.leads is.apart state.flow.same_length

    pub moving_after : IsMoving nodes arcs (push_along hops m x) f
    moving_after = record {
      flow = IsFlow-along nodes arcs hops m x state.flow at_least_1 is.apart is.room;
      excess_sized = transfer.same_length ∙ state.excess_sized;
      small = small_after;
    }

    is_push : (supply : ℕ → ℤ) → IsExcess arcs supply x e → IsPush arcs supply x (push_along hops m x)
    is_push supply known = record {
      amount = m;
      hops = hops;
      source = root;
      target = t;
      at_least_1 = at_least_1;
      path = is.leads;
      simple = is.simple;
      shift = IsShift-along arcs hops m x state.flow.same_length is.apart;
      in_excess = rw (← known root) in_excess;
      in_deficit = rw (← known t) in_deficit;
    }

    pub one_push : ArePushes arcs 1 x e (push_along hops m x) f
    one_push = record {
      excess = λ supply known v. omega (arith, ints, known v, net_after v, transfer.by_node v);
      pushes = λ supply known. (x, refl, is_push supply known);
      count = omega (arith, left_falls);
      lacking = omega (arith, lack_falls);
      none = λ h. absurd (omega (arith, h));
      balanced = by_three (λ v. number_at e v ≡ pos 0 → number_at f v ≡ pos 0)
          (λ h. absurd (omega (arith, ints, h, in_excess, at_least_1)))
          (λ h. absurd (omega (arith, ints, h, in_deficit, at_least_1)))
          (λ v same h. omega (arith, ints, h, same));
    }

-- ---- pushes one after the other

pub ArePushes-none : (arcs : List ArcRow) (x e : List ℤ) → ArePushes arcs 0 x e x e
ArePushes-none arcs x e = record {
  excess = λ supply is. is;
  pushes = λ supply is. refl;
  count = omega arith;
  lacking = omega arith;
  none = λ h. (refl, refl);
  balanced = λ v h. h;
}

Pushes-more : (arcs : List ArcRow) (supply : ℕ → ℤ) (m n : ℕ) (x y z : List ℤ) → Pushes arcs supply m x y → Pushes arcs supply n y z → Pushes arcs supply (n + m) x z
Pushes-more arcs supply m zero x y z first rest =
    let same : m ≡ zero + m = omega arith in
    subst (λ (k : ℕ). Pushes arcs supply k x z) same (subst (λ (w : List ℤ). Pushes arcs supply m x w) rest first)
Pushes-more arcs supply m (suc n) x y z first rest =
    let same : suc (n + m) ≡ suc n + m = omega arith in
    let more : Pushes arcs supply (suc (n + m)) x z = (rest.0, Pushes-more arcs supply m n x y rest.0 first rest.1, rest.2) in
    subst (λ (k : ℕ). Pushes arcs supply k x z) same more

pub ArePushes-more : {arcs : List ArcRow} {m n : ℕ} {x e y f z g : List ℤ} → ArePushes arcs m x e y f → ArePushes arcs n y f z g → ArePushes arcs (m + n) x e z g
ArePushes-more {arcs} {m} {n} {x} {e} {y} {f} {z} {g} first rest =
    let turned : n + m ≡ m + n = omega arith in
    record {
      excess = λ supply is. rest.excess supply (first.excess supply is);
      pushes = λ supply is. subst (λ (k : ℕ). Pushes arcs supply k x z) turned (Pushes-more arcs supply m n x y z (first.pushes supply is) (rest.pushes supply (first.excess supply is)));
      count = omega (arith, first.count, rest.count);
      lacking = omega (arith, first.lacking, rest.lacking);
      none = λ h.
          (let kept = first.none (omega arith) in
          let still = rest.none (omega arith) in
          (kept.0 ∙ still.0, kept.1 ∙ still.1));
      balanced = λ v h. rest.balanced v (first.balanced v h);
    }
