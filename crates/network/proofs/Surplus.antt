-- What the nodes of a set have left to send out.
use Rattle.std.proofs.Common.{◌≡◌, ℕ, ℤ, pos, ◌-ℤ◌, Bool, true, false, if◌then◌else◌, List, refl, arith}
use Rattle.network.specs.Flow.{nodes_sum, MinCost, AllEndsAreNodes, net, supply_of, excess}
use Rattle.network.proofs.IntegerAlgebra.{linear}
use Rattle.network.proofs.Sums.{nodes_sum-same, nodes_sum-sub}
use Rattle.network.proofs.Cuts.{flow_across, nodes_sum-across}

-- the excess of the nodes of a set
abbrev pub excess_of : MinCost → List ℤ → (ℕ → Bool) → ℤ
excess_of I flow set = nodes_sum I.nodes (λ v. if set v then excess I flow v else pos 0)

-- it is their supply less what goes out of the set
pub excess_of-across : (I : MinCost) (flow : List ℤ) (set : ℕ → Bool) → AllEndsAreNodes I → excess_of I flow set ≡ supply_of I set -ℤ flow_across set I.arcs flow
excess_of-across I flow set ends =
    let parts = nodes_sum-same I.nodes (λ v. if set v then excess I flow v else pos 0) (λ v. (if set v then I.supply v else pos 0) -ℤ (if set v then net I.arcs flow v else pos 0)) (λ v b. by (set v) (I.supply v) (net I.arcs flow v)) in
    let sums = nodes_sum-sub I.nodes (λ v. if set v then I.supply v else pos 0) (λ v. if set v then net I.arcs flow v else pos 0) in
    let across = nodes_sum-across I set flow ends in
    omega (arith, linear)
  where
    by : (b : Bool) (s x : ℤ) → (if b then s -ℤ x else pos 0) ≡ (if b then s else pos 0) -ℤ (if b then x else pos 0)
    by true s x = refl
    by false s x = refl
