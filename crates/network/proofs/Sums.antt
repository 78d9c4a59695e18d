-- Sums over arcs, over arcs with their flows, and over nodes.
use Rattle.std.proofs.Common.{◌≡◌, ◌≢◌, ℕ, zero, suc, ◌<◌, ◌≤◌, ◌==◌, ℤ, pos, ◌+ℤ◌, ◌-ℤ◌, ◌≤ℤ◌, Bool, true, false, if◌then◌else◌, List, ◌∷◌, refl, sym, ap, ◌∙◌, arith, ne_eqb, eqb-true, eq-eqb, true≢false}
use Rattle.std.proofs.lemmas.Int.{ints}
use Rattle.dimacs_text.specs.declared.problem.ArcRow.{ArcRow}
use Rattle.network.specs.Flow.{flow_sum, nodes_sum}

-- ---- over arcs with their flows

pub flow_sum-sub : (f g : ArcRow → ℤ → ℤ) (arcs : List ArcRow) (flow : List ℤ) → flow_sum f arcs flow -ℤ flow_sum g arcs flow ≡ flow_sum (λ a x. f a x -ℤ g a x) arcs flow
flow_sum-sub f g (a ∷ arcs) (x ∷ flow) = let h = flow_sum-sub f g arcs flow in omega (arith, ints)
flow_sum-sub f g _ _ = refl

-- ---- over nodes

pub nodes_sum-same : (n : ℕ) (f g : ℕ → ℤ) → ((v : ℕ) → (1 ≤ v) × (v ≤ n) → f v ≡ g v) → nodes_sum n f ≡ nodes_sum n g
nodes_sum-same zero f g h = refl
nodes_sum-same (suc n) f g h =
    let e = nodes_sum-same n f g (λ v b. h v (b.0, omega arith)) in
    let k = h (suc n) (omega arith, omega arith) in
    λ i. e i +ℤ k i

pub nodes_sum-le : (n : ℕ) (f g : ℕ → ℤ) → ((v : ℕ) → (1 ≤ v) × (v ≤ n) → f v ≤ℤ g v) → nodes_sum n f ≤ℤ nodes_sum n g
nodes_sum-le zero f g h = omega (arith, ints)
nodes_sum-le (suc n) f g h =
    let e = nodes_sum-le n f g (λ v b. h v (b.0, omega arith)) in
    let k = h (suc n) (omega arith, omega arith) in
    omega (arith, ints)

pub nodes_sum-add : (n : ℕ) (f g : ℕ → ℤ) → nodes_sum n (λ v. f v +ℤ g v) ≡ nodes_sum n f +ℤ nodes_sum n g
nodes_sum-add zero f g = refl
nodes_sum-add (suc n) f g = let h = nodes_sum-add n f g in omega (arith, ints)

pub nodes_sum-sub : (n : ℕ) (f g : ℕ → ℤ) → nodes_sum n (λ v. f v -ℤ g v) ≡ nodes_sum n f -ℤ nodes_sum n g
nodes_sum-sub zero f g = refl
nodes_sum-sub (suc n) f g = let h = nodes_sum-sub n f g in omega (arith, ints)

pub nodes_sum-zero : (n : ℕ) → nodes_sum n (λ v. pos 0) ≡ pos 0
nodes_sum-zero zero = refl
nodes_sum-zero (suc n) = let h = nodes_sum-zero n in omega (arith, ints)

-- a sum in which one node alone counts
nodes_sum-beyond : (n u : ℕ) (f : ℕ → ℤ) → n < u → nodes_sum n (λ v. if u == v then f v else pos 0) ≡ pos 0
nodes_sum-beyond zero u f h = refl
nodes_sum-beyond (suc n) u f h =
    let e = nodes_sum-beyond n u f (omega arith) in
    let k = ne_eqb u (suc n) (omega arith) in
    let t : (if u == suc n then f (suc n) else pos 0) ≡ pos 0 = rw k refl in
    omega (arith, ints)

nodes_sum-last : (n u : ℕ) (f : ℕ → ℤ) → u ≤ suc n → (u ≤ n → nodes_sum n (λ v. if u == v then f v else pos 0) ≡ f u) → (b : Bool) → (u == suc n) ≡ b
    → nodes_sum n (λ v. if u == v then f v else pos 0) +ℤ (if u == suc n then f (suc n) else pos 0) ≡ f u
nodes_sum-last n u f k before true e =
    let is : u ≡ suc n = eqb-true u (suc n) e in
    let z = nodes_sum-beyond n u f (omega arith) in
    let t : (if u == suc n then f (suc n) else pos 0) ≡ f u = rw e (ap f (sym is)) in
    omega (arith, ints)
nodes_sum-last n u f k before false e =
    let other : u ≢ suc n = λ is. true≢false (sym (eq-eqb u (suc n) is) ∙ e) in
    let z = before (omega arith) in
    let t : (if u == suc n then f (suc n) else pos 0) ≡ pos 0 = rw e refl in
    omega (arith, ints)

pub nodes_sum-one : (n u : ℕ) (f : ℕ → ℤ) → 1 ≤ u → u ≤ n → nodes_sum n (λ v. if u == v then f v else pos 0) ≡ f u
nodes_sum-one zero u f h k = absurd (omega arith)
nodes_sum-one (suc n) u f h k = nodes_sum-last n u f k (λ below. nodes_sum-one n u f h below) (u == suc n) refl
