-- A legal flow that potentials certify costs least, and the potentials of the nodes alone tell.
use Rattle.std.proofs.Common.{◌≡◌, ℕ, ℤ, pos, ◌+ℤ◌, ◌-ℤ◌, ◌*ℤ◌, ◌≤ℤ◌, List, [], ◌∷◌, refl, sym, ap, subst, ◌∙◌, arith}
use Rattle.std.proofs.lemmas.Int.{ints, by_lt_z}
use Rattle.std.specs.List.{AllByRecursion, AllZip}
use Rattle.dimacs_text.specs.declared.problem.ArcRow.{ArcRow}
use Rattle.network.specs.Flow.{flow_sum, nodes_sum, MinCost, IsNode, AllEndsAreNodes, IsWithinBounds, AllWithinBounds, IsLegalFlow, total_cost, IsLeastCostFlow, reduced_cost, FollowsSign, IsPotential, IsCertifiedFlow}
use Rattle.network.proofs.IntegerAlgebra.{linear, add-mul, mul-le-mul, mul-le-mul_down}
use Rattle.network.proofs.Sums.{nodes_sum-same}
use Rattle.network.proofs.Balance.{balance}

-- the cost of a flow at reduced costs
abbrev pub reduced_total : (ℕ → ℤ) → List ArcRow → List ℤ → ℤ
reduced_total p = flow_sum (λ arc x. reduced_cost p arc *ℤ x)

-- it is the cost and what the potentials make of the nets
pub reduced_total-split : (p : ℕ → ℤ) (arcs : List ArcRow) (flow : List ℤ)
    → reduced_total p arcs flow ≡ total_cost arcs flow +ℤ flow_sum (λ arc x. (p arc.tail -ℤ p arc.head) *ℤ x) arcs flow
reduced_total-split p (arc ∷ arcs) (x ∷ flow) =
    let rest = reduced_total-split p arcs flow in
    let c : reduced_cost p arc ≡ arc.cost +ℤ (p arc.tail -ℤ p arc.head) = omega (arith, linear) in
    let product = ap (λ (k : ℤ). k *ℤ x) c ∙ add-mul arc.cost (p arc.tail -ℤ p arc.head) x in
    omega (arith, linear)
reduced_total-split p _ _ = refl

-- on each arc the certified flow is as cheap as any other within the bounds
pub reduced_le : (p : ℕ → ℤ) (arc : ArcRow) (x y : ℤ) → FollowsSign p arc x → IsWithinBounds arc x → IsWithinBounds arc y → (reduced_cost p arc *ℤ x) ≤ℤ (reduced_cost p arc *ℤ y)
reduced_le p arc x y sign bounds others =
    let c = reduced_cost p arc in
    by_lt_z (pos 0) c
    (λ dear. let e = sign.dear dear in mul-le-mul c x y (omega (arith, linear)) (omega (arith, linear)))
    (λ rest. by_lt_z c (pos 0)
    (λ cheap. let e = sign.cheap cheap in mul-le-mul_down c y x (omega (arith, linear)) (omega (arith, linear)))
    (λ least. let zero_is : c ≡ pos 0 = omega (arith, linear) in rw zero_is (omega (arith, ints))))

pub reduced_total-le : (p : ℕ → ℤ) (arcs : List ArcRow) (flow other : List ℤ) → AllZip (FollowsSign p) arcs flow → AllWithinBounds arcs flow → AllWithinBounds arcs other
    → reduced_total p arcs flow ≤ℤ reduced_total p arcs other
reduced_total-le p [] flow other sign bounds others = omega (arith, ints)
reduced_total-le p (arc ∷ arcs) [] other sign bounds others = absurd bounds
reduced_total-le p (arc ∷ arcs) (x ∷ flow) [] sign bounds others = absurd others
reduced_total-le p (arc ∷ arcs) (x ∷ flow) (y ∷ other) sign bounds others =
    let here = reduced_le p arc x y sign.0 bounds.0 others.0 in
    let rest = reduced_total-le p arcs flow other sign.1 bounds.1 others.1 in
    omega (arith, linear)

pub certified_is_least : (I : MinCost) (flow : List ℤ) (p : ℕ → ℤ) → AllEndsAreNodes I → IsLegalFlow I flow → IsCertifiedFlow I flow p → IsLeastCostFlow I flow
certified_is_least I flow p ends legal certified = record {
  legal = legal;
  least = λ other others.
      let weight : (z : List ℤ) → IsLegalFlow I z → nodes_sum I.nodes (λ v. p v *ℤ I.supply v) ≡ flow_sum (λ arc x. (p arc.tail -ℤ p arc.head) *ℤ x) I.arcs z =
      λ z k. nodes_sum-same I.nodes _ _ (λ v b. ap (λ (s : ℤ). p v *ℤ s) (sym (k.conserved v b))) ∙ balance I.nodes p I.arcs z ends in
      let w = weight flow legal in
      let w' = weight other others in
      let s = reduced_total-split p I.arcs flow in
      let s' = reduced_total-split p I.arcs other in
      let le = reduced_total-le p I.arcs flow other certified.signs certified.bounds others.bounds in
      omega (arith, linear);
}

-- ---- potentials that agree at the nodes certify the same flows

module _ (I : MinCost) (p q : ℕ → ℤ) (same : (v : ℕ) → IsNode I v → q v ≡ p v) where
  signs_same : (arcs : List ArcRow) (flow : List ℤ) → AllByRecursion (λ arc. IsNode I arc.tail × IsNode I arc.head) arcs → AllZip (FollowsSign p) arcs flow → AllZip (FollowsSign q) arcs flow
  signs_same [] [] ends signs = tt
  signs_same (arc ∷ arcs) (x ∷ flow) ends signs =
      let tail = same arc.tail ends.0.0 in
      let head = same arc.head ends.0.1 in
      (record { dear = λ dear. signs.0.dear (omega (arith, ints)); cheap = λ cheap. signs.0.cheap (omega (arith, ints)) }, signs_same arcs flow ends.1 signs.1)
  signs_same _ _ ends signs = absurd signs

  pub certified_same : (flow : List ℤ) → AllEndsAreNodes I → IsCertifiedFlow I flow p → IsCertifiedFlow I flow q
  certified_same flow ends certified = record { bounds = certified.bounds; signs = signs_same I.arcs flow ends certified.signs; range = λ v node. subst IsPotential (sym (same v node)) (certified.range v node) }
