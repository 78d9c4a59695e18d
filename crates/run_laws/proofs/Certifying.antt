-- Potentials that certify one flow of least cost certify each.
use Rattle.std.proofs.Common.{◌≡◌, ℕ, ℤ, pos, ◌-ℤ◌, ◌*ℤ◌, ◌≤ℤ◌, ◌<ℤ◌, List, [], ◌∷◌, length, ◌≤◌, ◌∙◌, arith}
use Rattle.std.proofs.lemmas.Int.{by_lt_z}
use Rattle.std.specs.List.{AllZip}
use Rattle.dimacs_text.specs.declared.problem.ArcRow.{ArcRow}
use Rattle.network.specs.Flow.{MinCost, AllEndsAreNodes, IsWithinBounds, AllWithinBounds, IsLegalFlow, total_cost, reduced_cost, FollowsSign, IsCertifiedFlow}
use Rattle.network.proofs.IntegerAlgebra.{linear, mul-sub, mul-le-mul, mul-le-mul_down}
use borrow.Author.Differences.{same_in, product_is}
use Rattle.network.proofs.Optimality.{reduced_le, reduced_total, reduced_total-le, reduced_total-split}
use Rattle.network.proofs.Reduction.{rows_of, reduced_ends, assignment_to_reduced, flow_to_reduced, cost_is_value, made}
use Rattle.network.specs.Flow.{net}
use Rattle.network.specs.Instance.{Demand, Supplies, Terminals, Sides, Instance, IsLawful, IsBest, IsCertified, reduced}
use Rattle.plan_laws.proofs.PriceLemmas.{supplied}

times_one : (c : ℤ) → c *ℤ pos 1 ≡ c
times_one c = omega (arith, same_in, product_is)

same_by_dear : (c x y : ℤ) → pos 0 <ℤ c → x ≤ℤ y → (c *ℤ y) ≤ℤ (c *ℤ x) → y ≡ x
same_by_dear c x y h le back =
    by_lt_z x y
    (λ less.
    let s = mul-sub c y x in
    let one = times_one c in
    let g = mul-le-mul c (pos 1) (y -ℤ x) (omega (arith, linear)) (omega (arith, linear)) in
    absurd (omega (arith, linear)))
    (λ rest. omega (arith, linear))

same_by_cheap : (c x y : ℤ) → c <ℤ pos 0 → y ≤ℤ x → (c *ℤ y) ≤ℤ (c *ℤ x) → y ≡ x
same_by_cheap c x y h le back =
    by_lt_z y x
    (λ less.
    let s = mul-sub c x y in
    let one = times_one c in
    let g = mul-le-mul_down c (pos 1) (x -ℤ y) (omega (arith, linear)) (omega (arith, linear)) in
    absurd (omega (arith, linear)))
    (λ rest. omega (arith, linear))

follows : (p : ℕ → ℤ) (arc : ArcRow) (x y : ℤ) → FollowsSign p arc x → IsWithinBounds arc x → IsWithinBounds arc y → (reduced_cost p arc *ℤ y) ≤ℤ (reduced_cost p arc *ℤ x) → FollowsSign p arc y
follows p arc x y sign bounds others back = record {
  dear = λ dear. same_by_dear (reduced_cost p arc) x y dear (let e = sign.dear dear in omega (arith, linear)) back ∙ sign.dear dear;
  cheap = λ cheap. same_by_cheap (reduced_cost p arc) x y cheap (let e = sign.cheap cheap in omega (arith, linear)) back ∙ sign.cheap cheap;
}

all_follow : (p : ℕ → ℤ) (arcs : List ArcRow) (flow other : List ℤ) → AllZip (FollowsSign p) arcs flow → AllWithinBounds arcs flow → AllWithinBounds arcs other
    → reduced_total p arcs other ≤ℤ reduced_total p arcs flow → AllZip (FollowsSign p) arcs other
all_follow p [] [] [] sign bounds others back = tt
all_follow p [] [] (y ∷ other) sign bounds others back = absurd others
all_follow p [] (x ∷ flow) other sign bounds others back = absurd bounds
all_follow p (arc ∷ arcs) [] other sign bounds others back = absurd bounds
all_follow p (arc ∷ arcs) (x ∷ flow) [] sign bounds others back = absurd others
all_follow p (arc ∷ arcs) (x ∷ flow) (y ∷ other) sign bounds others back =
    let here = reduced_le p arc x y sign.0 bounds.0 others.0 in
    let rest = reduced_total-le p arcs flow other sign.1 bounds.1 others.1 in
    (follows p arc x y sign.0 bounds.0 others.0 (omega (arith, linear)), all_follow p arcs flow other sign.1 bounds.1 others.1 (omega (arith, linear)))

pub certified_of_as_cheap : (I : MinCost) (x y : List ℤ) (p : ℕ → ℤ) → AllEndsAreNodes I → IsLegalFlow I x → IsLegalFlow I y → total_cost I.arcs y ≤ℤ total_cost I.arcs x
    → IsCertifiedFlow I x p → IsCertifiedFlow I y p
certified_of_as_cheap I x y p ends legal other less certified =
    let w = supplied I p x ends legal in
    let w' = supplied I p y ends other in
    let s = reduced_total-split p I.arcs x in
    let s' = reduced_total-split p I.arcs y in
    record {
      bounds = other.bounds;
      signs = all_follow p I.arcs x y certified.signs certified.bounds other.bounds (omega (arith, linear));
      range = certified.range;
    }

certified_by : (n : ℕ) (D : Demand) (arcs : List ArcRow) (room : ℕ) (x y : List ℤ) (p : ℕ → ℤ) → IsLawful (made n D arcs room) → IsBest (made n D arcs room) x → IsBest (made n D arcs room) y
    → IsCertified (made n D arcs room) x p → IsCertified (made n D arcs room) y p
certified_by n (Supplies s) arcs room x y p lawful best other certified =
    let I = made n (Supplies s) arcs room in
    certified_of_as_cheap (reduced I) x y p (reduced_ends I lawful) best.legal other.legal (other.best x best.legal) certified
certified_by n (Terminals source sink) arcs room x y p lawful best other certified =
    let I = made n (Terminals source sink) arcs room in
    let few : length arcs ≤ 100000 = omega (arith, lawful.count, lawful.room) in
    let value : pos 0 ≤ℤ net arcs x source = certified.bounds.0.0 in
    let more : net arcs x source ≤ℤ net arcs y source = other.best x best.legal in
    let c = cost_is_value n source sink arcs lawful.demand (rows_of lawful) few x (net arcs x source) in
    let d = cost_is_value n source sink arcs lawful.demand (rows_of lawful) few y (net arcs y source) in
    certified_of_as_cheap (reduced I) (net arcs x source ∷ x) (net arcs y source ∷ y) p (reduced_ends I lawful)
    (flow_to_reduced n source sink arcs lawful.demand (rows_of lawful) few x best.legal.0 best.legal.1 value)
    (flow_to_reduced n source sink arcs lawful.demand (rows_of lawful) few y other.legal.0 other.legal.1 (omega (arith, linear)))
    (omega (arith, linear)) certified
certified_by n (Sides marks) arcs room x y p lawful best other certified =
    let I = made n (Sides marks) arcs room in
    certified_of_as_cheap (reduced I) x y p (reduced_ends I lawful) (assignment_to_reduced I marks x (rows_of lawful) best.legal) (assignment_to_reduced I marks y (rows_of lawful) other.legal) (other.best x best.legal) certified

pub certified_of_best : (I : Instance) (x y : List ℤ) (p : ℕ → ℤ) → IsLawful I → IsBest I x → IsBest I y → IsCertified I x p → IsCertified I y p
certified_of_best I x y p lawful best other certified = certified_by I.nodes I.demand I.arcs I.room x y p lawful best other certified
