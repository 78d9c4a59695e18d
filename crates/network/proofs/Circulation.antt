-- A flow from source to sink is a circulation of the reduced instance, whose return arc carries what the source sends out.
use Rattle.std.proofs.Common.{◌≡◌, ◌≢◌, ℕ, ◌*◌, ◌^◌, ◌≤◌, ◌==◌, ℤ, pos, neg_ℤ, ◌+ℤ◌, ◌-ℤ◌, ◌*ℤ◌, ◌≤ℤ◌, Bool, true, false, if◌then◌else◌, List, [], ◌∷◌, length, replicate, refl, sym, ap, ◌∙◌, arith, eqb-true, eq-eqb, ne_eqb, true≢false}
use Rattle.std.proofs.Math.IntN.{zero-*ℤ}
use Rattle.std.proofs.lemmas.Int.{ints}
use Rattle.std.specs.List.{AllByRecursion}
use Rattle.dimacs_text.specs.declared.problem.ArcRow.{ArcRow}
use Rattle.dimacs_text.specs.Lawful.{IsLawfulRow}
use Rattle.network.specs.Flow.{flow_sum, nodes_sum, net, outflow, inflow, total_cost, AllWithinBounds}
use Rattle.network.specs.Instance.{Terminals, DemandFits, ArcFits, return_arc}
use Rattle.network.proofs.IntegerAlgebra.{linear}
use Rattle.network.proofs.Sums.{nodes_sum-same, nodes_sum-add, nodes_sum-one}
use Rattle.network.proofs.Balance.{balance}

-- what is sent out in all is nothing
pub nets_cancel : (n : ℕ) (arcs : List ArcRow) (flow : List ℤ) → AllByRecursion (λ arc. ((1 ≤ arc.tail) × (arc.tail ≤ n)) × ((1 ≤ arc.head) × (arc.head ≤ n))) arcs
    → nodes_sum n (net arcs flow) ≡ pos 0
nets_cancel n arcs flow ends =
    nodes_sum-same n (net arcs flow) (λ v. pos 1 *ℤ net arcs flow v) (λ v b. omega (arith, ints)) ∙ balance n (λ v. pos 1) arcs flow ends ∙ nothing arcs flow
  where
    nothing : (arcs : List ArcRow) (flow : List ℤ) → flow_sum (λ arc x. (pos 1 -ℤ pos 1) *ℤ x) arcs flow ≡ pos 0
    nothing (arc ∷ arcs) (x ∷ flow) = let h = nothing arcs flow in let z = zero-*ℤ x in omega (arith, linear)
    nothing _ _ = refl

-- where the nets but two are 0, those two are opposite
pub opposite_nets : (n source sink : ℕ) (f : ℕ → ℤ) → (1 ≤ source) × (source ≤ n) → (1 ≤ sink) × (sink ≤ n) → source ≢ sink
    → ((v : ℕ) → (1 ≤ v) × (v ≤ n) → v ≢ source → v ≢ sink → f v ≡ pos 0) → nodes_sum n f ≡ pos 0 → f sink ≡ neg_ℤ (f source)
opposite_nets n source sink f s t apart others whole =
    let parts = nodes_sum-same n f (λ v. (if source == v then f v else pos 0) +ℤ (if sink == v then f v else pos 0)) (λ v b. by v b (source == v) (sink == v) refl refl) in
    let sums = nodes_sum-add n (λ v. if source == v then f v else pos 0) (λ v. if sink == v then f v else pos 0) in
    let one = nodes_sum-one n source f s.0 s.1 in
    let two = nodes_sum-one n sink f t.0 t.1 in
    omega (arith, linear)
  where
    by : (v : ℕ) → (1 ≤ v) × (v ≤ n) → (b c : Bool) → (source == v) ≡ b → (sink == v) ≡ c → f v ≡ (if b then f v else pos 0) +ℤ (if c then f v else pos 0)
    by v k true true e h = absurd (apart (eqb-true source v e ∙ sym (eqb-true sink v h)))
    by v k false false e h = rw (others v k (λ is. true≢false (sym (eq-eqb source v (sym is)) ∙ e)) (λ is. true≢false (sym (eq-eqb sink v (sym is)) ∙ h))) refl
    by v k _ _ e h = omega (arith, ints)

-- what the source sends out is at most what the capacities of all arcs come to
pub net_below : (n source sink : ℕ) (arcs : List ArcRow) (flow : List ℤ) (v : ℕ) → AllByRecursion (λ arc. IsLawfulRow n arc × ArcFits (Terminals source sink) arc) arcs → AllWithinBounds arcs flow
    → net arcs flow v ≤ℤ pos (10 ^ 9 * length arcs)
net_below n source sink [] flow v fits bounds = omega (arith, ints)
net_below n source sink (arc ∷ arcs) [] v fits bounds = absurd bounds
net_below n source sink (arc ∷ arcs) (x ∷ flow) v fits bounds =
    let rest = net_below n source sink arcs flow v fits.1 bounds.1 in
    let cap = fits.0.0.limit in
    let low = fits.0.0.low in
    let here = bounds.0 in
    let out = at_most x (arc.tail == v) (omega (arith, linear)) (omega (arith, linear)) in
    let into = at_least x (arc.head == v) (omega (arith, linear)) in
    omega (arith, ints)
  where
    at_most : (x : ℤ) (b : Bool) → pos 0 ≤ℤ x → x ≤ℤ pos (10 ^ 9) → (if b then x else pos 0) ≤ℤ pos (10 ^ 9)
    at_most x true h k = k
    at_most x false h k = omega (arith, ints)

    at_least : (x : ℤ) (b : Bool) → pos 0 ≤ℤ x → pos 0 ≤ℤ (if b then x else pos 0)
    at_least x true h = h
    at_least x false h = omega (arith, ints)

pub free_of_cost : (n source sink : ℕ) (arcs : List ArcRow) (flow : List ℤ) → AllByRecursion (λ arc. IsLawfulRow n arc × ArcFits (Terminals source sink) arc) arcs → total_cost arcs flow ≡ pos 0
free_of_cost n source sink (arc ∷ arcs) (x ∷ flow) fits =
    let rest = free_of_cost n source sink arcs flow fits.1 in
    let here = ap (λ (c : ℤ). c *ℤ x) fits.0.1.1 ∙ zero-*ℤ x in
    omega (arith, linear)
free_of_cost n source sink _ _ fits = refl

pub zero_bounds : (n source sink : ℕ) (arcs : List ArcRow) → AllByRecursion (λ arc. IsLawfulRow n arc × ArcFits (Terminals source sink) arc) arcs → AllWithinBounds arcs (replicate (length arcs) (pos 0))
zero_bounds n source sink [] fits = tt
zero_bounds n source sink (arc ∷ arcs) fits =
    let low = fits.0.1.0 in
    let order = fits.0.0.cap in
    ((omega (arith, linear), omega (arith, linear)), zero_bounds n source sink arcs fits.1)

zero_sum : (f : ArcRow → Bool) (arcs : List ArcRow) → flow_sum (λ arc x. if f arc then x else pos 0) arcs (replicate (length arcs) (pos 0)) ≡ pos 0
zero_sum f [] = refl
zero_sum f (arc ∷ arcs) = let h = zero_sum f arcs in let z = nothing (f arc) in omega (arith, linear)
  where
    nothing : (b : Bool) → (if b then pos 0 else pos 0) ≡ pos 0
    nothing true = refl
    nothing false = refl

pub zero_net : (arcs : List ArcRow) (v : ℕ) → net arcs (replicate (length arcs) (pos 0)) v ≡ pos 0
zero_net arcs v =
    let out = zero_sum (λ arc. arc.tail == v) arcs in
    let into = zero_sum (λ arc. arc.head == v) arcs in
    omega (arith, linear)

-- with the return arc, every node sends out nothing in all
pub circulates : (n source sink : ℕ) (arcs : List ArcRow) (flow : List ℤ) → DemandFits n (Terminals source sink) → AllByRecursion (λ arc. ((1 ≤ arc.tail) × (arc.tail ≤ n)) × ((1 ≤ arc.head) × (arc.head ≤ n))) arcs
    → ((v : ℕ) → (1 ≤ v) × (v ≤ n) → v ≢ source → v ≢ sink → net arcs flow v ≡ pos 0)
    → (v : ℕ) → (1 ≤ v) × (v ≤ n) → net (return_arc source sink ∷ arcs) (net arcs flow source ∷ flow) v ≡ pos 0
circulates n source sink arcs flow fits ends others v k =
    by (source == v) (sink == v) refl refl
  where
    opposite : net arcs flow sink ≡ neg_ℤ (net arcs flow source)
    opposite = opposite_nets n source sink (net arcs flow) fits.0 fits.1 fits.2 others (nets_cancel n arcs flow ends)

    by : (b c : Bool) → (source == v) ≡ b → (sink == v) ≡ c
        → ((if c then net arcs flow source else pos 0) +ℤ outflow arcs flow v) -ℤ ((if b then net arcs flow source else pos 0) +ℤ inflow arcs flow v) ≡ pos 0
    by true true e h = absurd (fits.2 (eqb-true source v e ∙ sym (eqb-true sink v h)))
    by true false e h = let at = ap (net arcs flow) (eqb-true source v e) in omega (arith, linear)
    by false true e h = let at = ap (net arcs flow) (eqb-true sink v h) in let o = opposite in omega (arith, linear)
    by false false e h =
        let none = others v k (λ is. true≢false (sym (eq-eqb source v (sym is)) ∙ e)) (λ is. true≢false (sym (eq-eqb sink v (sym is)) ∙ h)) in
        omega (arith, linear)

-- and the other way round: the return arc carries what the source sends out, and the other nets are 0
pub from_circulation : (source sink : ℕ) (arcs : List ArcRow) (flow : List ℤ) (x : ℤ) (v : ℕ) → net (return_arc source sink ∷ arcs) (x ∷ flow) v ≡ pos 0
    → v ≢ source → v ≢ sink → net arcs flow v ≡ pos 0
from_circulation source sink arcs flow x v e s t =
    let no_source : (if source == v then x else pos 0) ≡ pos 0 = rw (ne_eqb source v (λ is. s (sym is))) refl in
    let no_sink : (if sink == v then x else pos 0) ≡ pos 0 = rw (ne_eqb sink v (λ is. t (sym is))) refl in
    omega (arith, linear)

pub return_flow_is : (source sink : ℕ) (arcs : List ArcRow) (flow : List ℤ) (x : ℤ) → net (return_arc source sink ∷ arcs) (x ∷ flow) source ≡ pos 0 → source ≢ sink → x ≡ net arcs flow source
return_flow_is source sink arcs flow x e apart =
    let from : (if source == source then x else pos 0) ≡ x = rw (eq-eqb source source refl) refl in
    let no_sink : (if sink == source then x else pos 0) ≡ pos 0 = rw (ne_eqb sink source (λ is. apart (sym is))) refl in
    omega (arith, linear)
