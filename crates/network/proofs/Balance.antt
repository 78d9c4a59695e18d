-- Nets weighted by a number at each node, summed over the nodes, are the flows weighted by the difference of those numbers at the ends.
use Rattle.std.proofs.Common.{◌≡◌, ℕ, ◌≤◌, ◌==◌, ℤ, pos, ◌+ℤ◌, ◌-ℤ◌, ◌*ℤ◌, Bool, true, false, if◌then◌else◌, List, ◌∷◌, refl, ◌∙◌, arith}
use Rattle.std.proofs.Math.IntN.{*ℤ-zero}
use Rattle.std.specs.List.{AllByRecursion}
use Rattle.dimacs_text.specs.declared.problem.ArcRow.{ArcRow}
use Rattle.network.specs.Flow.{flow_sum, nodes_sum, net, outflow, inflow}
use Rattle.network.proofs.IntegerAlgebra.{linear, mul-add, mul-sub, sub-mul}
use Rattle.network.proofs.Sums.{nodes_sum-same, nodes_sum-add, nodes_sum-sub, nodes_sum-zero, nodes_sum-one}

weighted : (p x : ℤ) (b : Bool) → p *ℤ (if b then x else pos 0) ≡ (if b then p *ℤ x else pos 0)
weighted p x true = refl
weighted p x false = *ℤ-zero p

-- one arc's part of a node's weighted net
weighted_net : (p x o i : ℤ) (b c : Bool)
    → p *ℤ (((if b then x else pos 0) +ℤ o) -ℤ ((if c then x else pos 0) +ℤ i)) ≡ ((if b then p *ℤ x else pos 0) -ℤ (if c then p *ℤ x else pos 0)) +ℤ p *ℤ (o -ℤ i)
weighted_net p x o i b c =
    let whole = mul-sub p ((if b then x else pos 0) +ℤ o) ((if c then x else pos 0) +ℤ i) in
    let out = mul-add p (if b then x else pos 0) o in
    let into = mul-add p (if c then x else pos 0) i in
    let rest = mul-sub p o i in
    let w = weighted p x b in
    let w' = weighted p x c in
    omega (arith, linear)

module _ (n : ℕ) (p : ℕ → ℤ) where
  pub balance : (arcs : List ArcRow) (flow : List ℤ) → AllByRecursion (λ arc. ((1 ≤ arc.tail) × (arc.tail ≤ n)) × ((1 ≤ arc.head) × (arc.head ≤ n))) arcs
      → nodes_sum n (λ v. p v *ℤ net arcs flow v) ≡ flow_sum (λ arc x. (p arc.tail -ℤ p arc.head) *ℤ x) arcs flow
  balance (arc ∷ arcs) (x ∷ flow) ends =
      let out : ℕ → ℤ = λ v. if arc.tail == v then p v *ℤ x else pos 0 in
      let into : ℕ → ℤ = λ v. if arc.head == v then p v *ℤ x else pos 0 in
      let parts = nodes_sum-same n (λ v. p v *ℤ net (arc ∷ arcs) (x ∷ flow) v) (λ v. (out v -ℤ into v) +ℤ p v *ℤ net arcs flow v)
      (λ v b. weighted_net (p v) x (outflow arcs flow v) (inflow arcs flow v) (arc.tail == v) (arc.head == v)) in
      let sums = nodes_sum-add n (λ v. out v -ℤ into v) (λ v. p v *ℤ net arcs flow v) in
      let differences = nodes_sum-sub n out into in
      let tail = nodes_sum-one n arc.tail (λ v. p v *ℤ x) ends.0.0.0 ends.0.0.1 in
      let head = nodes_sum-one n arc.head (λ v. p v *ℤ x) ends.0.1.0 ends.0.1.1 in
      let product = sub-mul (p arc.tail) (p arc.head) x in
      let rest = balance arcs flow ends.1 in
      omega (arith, linear)
  balance _ _ ends = nodes_sum-same n _ (λ v. pos 0) (λ v b. *ℤ-zero (p v)) ∙ nodes_sum-zero n
