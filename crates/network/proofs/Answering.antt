-- What the parts of the test of an answer come to.
use Rattle.std.proofs.Common.{◌≡◌, ◌↔◌, ◌*ℤ◌, mul-le-mul, ℕ, suc, ◌-◌, ◌*◌, ◌≤◌, ℤ, pos, Bool, IsTrue, List, [], ◌∷◌, length, All, unsigned_abs, arith}
use Rattle.std.proofs.lemmas.Int.{ints, unsigned_abs-mul}
use Rattle.std.proofs.lemmas.List.{get_or_default}
use Rattle.std.specs.List.{AllZip, AllByRecursion}
use Rattle.dimacs_text.specs.declared.problem.ArcRow.{ArcRow}
use Rattle.dimacs_text.specs.declared.problem.TheConstants.{CAP_LIMIT, COST_LIMIT}
use Rattle.dimacs_text.specs.Lawful.{IsLawfulRow}
use Rattle.network.specs.Flow.{AllWithinBounds, FollowsSign, IsPotential}
use Rattle.network.specs.Instance.{Demand, Supplies, Terminals, Sides, Instance, IsLawful, ArcFits, at_node, IsLegal, IsCertified, IsBalanced, IsReturnCertified}
use Rattle.network.proofs.Reduction.{made, rows_of, assignment_to_reduced, assignment_from_reduced}

legal_by : (n : ℕ) (D : Demand) (arcs : List ArcRow) (room : ℕ) (flow : List ℤ) → IsLawful (made n D arcs room) → (AllWithinBounds arcs flow × IsBalanced (made n D arcs room) flow) ↔ IsLegal (made n D arcs room) flow
legal_by n (Supplies s) arcs room flow lawful = (λ h. record { bounds = h.0; conserved = λ v b. h.1 v b tt }, λ h. (h.bounds, λ v b i. h.conserved v b))
legal_by n (Terminals source sink) arcs room flow lawful = (λ h. (h.0, λ v b s t. h.1 v b (s, t)), λ h. (h.0, λ v b i. h.1 v b i.0 i.1))
legal_by n (Sides marks) arcs room flow lawful =
    let I = made n (Sides marks) arcs room in (
      λ h. assignment_from_reduced I marks flow (rows_of lawful) (record { bounds = h.0; conserved = λ v b. h.1 v b tt }),
      λ h. let legal = assignment_to_reduced I marks flow (rows_of lawful) h in (legal.bounds, λ v b i. legal.conserved v b),
    )

-- a flow is legal exactly where it keeps the bounds and is balanced
pub legal_is : (I : Instance) (flow : List ℤ) → IsLawful I → (AllWithinBounds I.arcs flow × IsBalanced I flow) ↔ IsLegal I flow
legal_is I flow lawful = legal_by I.nodes I.demand I.arcs I.room flow lawful

-- potentials in range at each node are in range at each place
pub potentials_from : (n : ℕ) (potentials : List ℤ) → length potentials ≡ n → ((v : ℕ) → (1 ≤ v) × (v ≤ n) → IsPotential (at_node potentials v)) → All IsPotential potentials
potentials_from n potentials long each k d h =
    let at = each (suc k) (omega arith, omega arith) in
    let e : suc k - 1 ≡ k = omega arith in
    let same = get_or_default potentials k d (pos 0) h in
    rw same (rw e at at)

certified_by : (n : ℕ) (D : Demand) (arcs : List ArcRow) (room : ℕ) (flow : List ℤ) (p : ℕ → ℤ)
    → (AllWithinBounds arcs flow × AllZip (FollowsSign p) arcs flow × IsReturnCertified D arcs flow p × ((v : ℕ) → (1 ≤ v) × (v ≤ n) → IsPotential (p v))) ↔ IsCertified (made n D arcs room) flow p
certified_by n (Terminals source sink) arcs room flow p = (λ h. record { bounds = (h.2.0, h.0); signs = (h.2.1, h.1); range = h.3 }, λ h. (h.bounds.1, h.signs.1, (h.bounds.0, h.signs.0), h.range))
certified_by n _ arcs room flow p = (λ h. record { bounds = h.0; signs = h.1; range = h.3 }, λ h. (h.bounds, h.signs, tt, h.range))

-- potentials certify a flow exactly where the bounds, the sign rule and the range hold, on the return arc too
pub certified_is : (I : Instance) (flow : List ℤ) (p : ℕ → ℤ)
    → (AllWithinBounds I.arcs flow × AllZip (FollowsSign p) I.arcs flow × IsReturnCertified I.demand I.arcs flow p × ((v : ℕ) → (1 ≤ v) × (v ≤ I.nodes) → IsPotential (p v))) ↔ IsCertified I flow p
certified_is I flow p = certified_by I.nodes I.demand I.arcs I.room flow p

-- each arc's cost is small
pub costs_small : (n : ℕ) (D : Demand) (arcs : List ArcRow) (flow : List ℤ) → AllByRecursion (λ arc. IsLawfulRow n arc × ArcFits D arc) arcs → AllWithinBounds arcs flow → AllZip (λ arc x. unsigned_abs (arc.cost *ℤ x) ≤ unsigned_abs COST_LIMIT * CAP_LIMIT) arcs flow
costs_small n D [] [] rows bounds = tt
costs_small n D (arc ∷ arcs) (x ∷ flow) rows bounds =
    let low = rows.0.0.low in
    let cap = rows.0.0.limit in
    let here = bounds.0 in
    let small : unsigned_abs x ≤ CAP_LIMIT = omega (arith, ints) in
    let within = rows.0.0.cost in
    let cost : unsigned_abs arc.cost ≤ unsigned_abs COST_LIMIT = omega (arith, ints) in
    let product : unsigned_abs arc.cost * unsigned_abs x ≤ unsigned_abs COST_LIMIT * CAP_LIMIT = mul-le-mul cost small in
    (rw (unsigned_abs-mul arc.cost x) (omega arith), costs_small n D arcs flow rows.1 bounds.1)
costs_small n D _ _ rows bounds = absurd bounds

-- the second test answers for both facts where the first holds, and the first where it fails
pub second_answers : {A B L : Type 0} (r : Bool) → ((A × B) ↔ L) → A → (IsTrue r ↔ B) → IsTrue r ↔ L
second_answers r both a says = (λ t. both.0 (a, says.0 t), λ l. says.1 (both.1 l).1)
