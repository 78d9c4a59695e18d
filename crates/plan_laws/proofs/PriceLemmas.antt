-- Potentials bound what other supplies cost, and wider bounds never make a best flow worse.
use Rattle.std.proofs.Common.{◌≡◌, ℕ, ◌≤◌, ◌==◌, ◌||◌, Bool, true, false, ℤ, pos, neg_ℤ, ◌+ℤ◌, ◌-ℤ◌, ◌*ℤ◌, ◌≤ℤ◌, inl, inr, if◌then◌else◌, List, [], ◌∷◌, refl, sym, ap, ap₂, subst, ◌∙◌, arith}
use Rattle.std.specs.List.{AllZip, AllByRecursion}
use Rattle.dimacs_text.specs.declared.problem.ArcRow.{ArcRow}
use Rattle.dimacs_text.specs.Lawful.{IsLawfulRow}
use Rattle.network.specs.Flow.{flow_sum, nodes_sum, net, MinCost, AllEndsAreNodes, IsNode, AllWithinBounds, IsLegalFlow, total_cost, IsCertifiedFlow}
use Rattle.network.specs.Instance.{Demand, Supplies, Terminals, Sides, Instance, ArcFits, IsLawful, IsLegal, IsChoice, IsAsGood, IsBest, at_node, chosen_at, is_marked, reduced, worth}
use Rattle.plan_laws.specs.Prices.{resupplied, price_of, IsNoTighter, AreNoTighter, with_arcs, with_shipment, with_supplies}
use Rattle.network.proofs.IntegerAlgebra.{linear, mul-neg, mul-sub, sub-mul}
use Rattle.network.proofs.Sums.{nodes_sum-one, nodes_sum-same, nodes_sum-sub}
use Rattle.network.proofs.Balance.{balance}
use Rattle.network.proofs.Optimality.{reduced_total-le, reduced_total-split}
use Rattle.network.proofs.Reduction.{made, rows_of, reduced_ends}
use Rattle.flow_solver.specs.Answer.{IsAnswered, IsBestMoment, IsVerdict}
use Rattle.flow_solver.specs.Moment.{Moment}
use Rattle.flow_solver.specs.declared.verdict.Verdict.{Verdict}
use Rattle.flow_solver.specs.declared.verdict.Verdict.TheVariants.{Best}

-- ---- other supplies

-- what the potentials make of the nets of a legal flow is what they make of the supplies
pub supplied : (I : MinCost) (p : ℕ → ℤ) (flow : List ℤ) → AllEndsAreNodes I → IsLegalFlow I flow
    → nodes_sum I.nodes (λ v. p v *ℤ I.supply v) ≡ flow_sum (λ arc x. (p arc.tail -ℤ p arc.head) *ℤ x) I.arcs flow
supplied I p flow ends legal =
    nodes_sum-same I.nodes _ _ (λ v b. ap (λ (s : ℤ). p v *ℤ s) (sym (legal.conserved v b))) ∙ balance I.nodes p I.arcs flow ends

pub prices_bound : (I : MinCost) (supply : ℕ → ℤ) (flow other : List ℤ) (p : ℕ → ℤ) → AllEndsAreNodes I → IsLegalFlow I flow → IsCertifiedFlow I flow p → IsLegalFlow (resupplied I supply) other
    → (total_cost I.arcs flow +ℤ price_of I.nodes p I.supply supply) ≤ℤ total_cost I.arcs other
prices_bound I supply flow other p ends legal certified others =
    let w = supplied I p flow ends legal in
    let w' = supplied (resupplied I supply) p other ends others in
    let s = reduced_total-split p I.arcs flow in
    let s' = reduced_total-split p I.arcs other in
    let le = reduced_total-le p I.arcs flow other certified.signs certified.bounds others.bounds in
    let parts : price_of I.nodes p I.supply supply ≡ nodes_sum I.nodes (λ v. p v *ℤ I.supply v -ℤ p v *ℤ supply v) =
    nodes_sum-same I.nodes _ _ (λ v b. mul-sub (p v) (I.supply v) (supply v)) in
    let split = nodes_sum-sub I.nodes (λ v. p v *ℤ I.supply v) (λ v. p v *ℤ supply v) in
    omega (arith, linear)

-- a shipment of units from u to v: what each node adds to the price
shipped : (b c : Bool) (a o d : ℤ) → a *ℤ (o -ℤ ((o +ℤ (if b then d else pos 0)) -ℤ (if c then d else pos 0))) ≡ (if c then a *ℤ d else pos 0) -ℤ (if b then a *ℤ d else pos 0)
shipped true true a o d =
    let same : o -ℤ ((o +ℤ d) -ℤ d) ≡ d -ℤ d = omega (arith, linear) in ap (λ (z : ℤ). a *ℤ z) same ∙ mul-sub a d d
shipped true false a o d =
    let less : o -ℤ ((o +ℤ d) -ℤ pos 0) ≡ neg_ℤ d = omega (arith, linear) in
    let product = ap (λ (z : ℤ). a *ℤ z) less ∙ mul-neg a d in
    omega (arith, linear, product)
shipped false true a o d =
    let more : o -ℤ ((o +ℤ pos 0) -ℤ d) ≡ d = omega (arith, linear) in
    let product = ap (λ (z : ℤ). a *ℤ z) more in
    omega (arith, linear, product)
shipped false false a o d =
    let same : o -ℤ ((o +ℤ pos 0) -ℤ pos 0) ≡ d -ℤ d = omega (arith, linear) in
    let product = ap (λ (z : ℤ). a *ℤ z) same ∙ mul-sub a d d in
    omega (arith, linear, product)

price_of-shipment : (n u v : ℕ) (p supply : ℕ → ℤ) (units : ℤ) → (1 ≤ u) × (u ≤ n) → (1 ≤ v) × (v ≤ n) → price_of n p supply (with_shipment supply u v units) ≡ (p v -ℤ p u) *ℤ units
price_of-shipment n u v p supply units from to =
    let out : ℕ → ℤ = λ w. if u == w then p w *ℤ units else pos 0 in
    let into : ℕ → ℤ = λ w. if v == w then p w *ℤ units else pos 0 in
    nodes_sum-same n _ (λ w. into w -ℤ out w) (λ w b. shipped (u == w) (v == w) (p w) (supply w) units)
    ∙ nodes_sum-sub n into out
    ∙ ap₂ ◌-ℤ◌ (nodes_sum-one n v (λ w. p w *ℤ units) to.0 to.1) (nodes_sum-one n u (λ w. p w *ℤ units) from.0 from.1)
    ∙ sym (sub-mul (p v) (p u) units)

pub shipment_bound : (I : MinCost) (u v : ℕ) (units : ℤ) (flow other : List ℤ) (p : ℕ → ℤ) → AllEndsAreNodes I → IsNode I u → IsNode I v → IsLegalFlow I flow → IsCertifiedFlow I flow p
    → IsLegalFlow (resupplied I (with_shipment I.supply u v units)) other → (total_cost I.arcs flow +ℤ (p v -ℤ p u) *ℤ units) ≤ℤ total_cost I.arcs other
shipment_bound I u v units flow other p ends from to legal certified others =
    let bound = prices_bound I (with_shipment I.supply u v units) flow other p ends legal certified others in
    let price = price_of-shipment I.nodes u v p I.supply units from to in
    omega (arith, linear, bound, price)

plans_bound : (I : Instance) (old new : List ℤ) (x y : List ℤ) (p : ℕ → ℤ) (set other_set : ℕ → Bool) (w z : ℤ) → IsLawful (with_supplies I old)
    → IsBestMoment (with_supplies I old) x set w → IsCertifiedFlow (reduced (with_supplies I old)) x p → IsBestMoment (with_supplies I new) y other_set z
    → (w +ℤ price_of I.nodes p (at_node old) (at_node new)) ≤ℤ z
plans_bound I old new x y p set other_set w z lawful one certified other =
    let bound = prices_bound (reduced (with_supplies I old)) (at_node new) x y p (reduced_ends (with_supplies I old) lawful) one.best.legal certified other.best.legal in
    omega (arith, linear, bound, one.worth_is, other.worth_is)

-- between answered moments with plans, whose instances differ in supplies alone
pub answers_bound : (m n : Moment) (old new : List ℤ) (w z : ℤ) → IsAnswered m → IsAnswered n → m.instance.demand ≡ Supplies old → n.instance ≡ with_supplies m.instance new
    → m.verdict ≡ Best w → n.verdict ≡ Best z → (w +ℤ price_of m.instance.nodes (at_node m.potentials) (at_node old) (at_node new)) ≤ℤ z
answers_bound m n old new w z one other supplies resupplied best also =
    let I = m.instance in
    let is : I ≡ with_supplies I old = ap (λ (D : Demand). made I.nodes D I.arcs I.room) supplies in
    let plan = subst (λ (v : Verdict). IsVerdict v I m.flow (is_marked m.cut)) best one.verdict in
    let plan' = subst (λ (v : Verdict). IsVerdict v n.instance n.flow (is_marked n.cut)) also other.verdict in
    plans_bound I old new m.flow n.flow (at_node m.potentials) (is_marked m.cut) (is_marked n.cut) w z
    (subst IsLawful is one.sized.lawful)
    (subst (λ (K : Instance). IsBestMoment K m.flow (is_marked m.cut) w) is plan)
    (subst (λ (K : Instance). IsCertifiedFlow (reduced K) m.flow (at_node m.potentials)) is one.certified)
    (subst (λ (K : Instance). IsBestMoment K n.flow (is_marked n.cut) z) resupplied plan')

-- ---- wider bounds

sum_wider : (f : ArcRow → ℤ → ℤ) → ((a b : ArcRow) (x : ℤ) → IsNoTighter a b → f a x ≡ f b x) → (arcs others : List ArcRow) (flow : List ℤ) → AreNoTighter arcs others
    → flow_sum f arcs flow ≡ flow_sum f others flow
sum_wider f same [] [] flow wider = refl
sum_wider f same [] (b ∷ others) flow wider = absurd wider
sum_wider f same (a ∷ arcs) [] flow wider = absurd wider
sum_wider f same (a ∷ arcs) (b ∷ others) [] wider = refl
sum_wider f same (a ∷ arcs) (b ∷ others) (x ∷ flow) wider =
    let here = same a b x wider.0 in
    let rest = sum_wider f same arcs others flow wider.1 in
    omega (arith, linear)

net_wider : (arcs others : List ArcRow) (flow : List ℤ) (v : ℕ) → AreNoTighter arcs others → net others flow v ≡ net arcs flow v
net_wider arcs others flow v wider =
    let out = sum_wider (λ arc x. if arc.tail == v then x else pos 0) (λ a b x w. rw (w.tail) refl) arcs others flow wider in
    let into = sum_wider (λ arc x. if arc.head == v then x else pos 0) (λ a b x w. rw (w.head) refl) arcs others flow wider in
    omega (arith, linear)

cost_wider : (arcs others : List ArcRow) (flow : List ℤ) → AreNoTighter arcs others → total_cost others flow ≡ total_cost arcs flow
cost_wider arcs others flow wider = sym (sum_wider (λ arc x. arc.cost *ℤ x) (λ a b x w. rw (w.cost) refl) arcs others flow wider)

chosen_wider : (arcs others : List ArcRow) (flow : List ℤ) (v : ℕ) → AreNoTighter arcs others → chosen_at others flow v ≡ chosen_at arcs flow v
chosen_wider arcs others flow v wider =
    sym (sum_wider (λ arc x. if (arc.tail == v) || (arc.head == v) then x else pos 0) (λ a b x w. rw (w.tail, w.head) refl) arcs others flow wider)

bounds_wider : (arcs others : List ArcRow) (flow : List ℤ) → AreNoTighter arcs others → AllWithinBounds arcs flow → AllWithinBounds others flow
bounds_wider [] [] flow wider within = within
bounds_wider [] (b ∷ others) flow wider within = absurd wider
bounds_wider (a ∷ arcs) [] flow wider within = absurd wider
bounds_wider (a ∷ arcs) (b ∷ others) [] wider within = absurd within
bounds_wider (a ∷ arcs) (b ∷ others) (x ∷ flow) wider within =
    let low = wider.0.low in
    let cap = wider.0.cap in
    let here = within.0 in
    ((omega (arith, here.0, linear), omega (arith, here.1, linear)), bounds_wider arcs others flow wider.1 within.1)

choice_wider : (marks : List _) (a b : ArcRow) (x : ℤ) → IsNoTighter a b → ArcFits (Sides marks) b → IsChoice a x → IsChoice b x
choice_wider marks a b x wider fits (inl none) = inl none
choice_wider marks a b x wider fits (inr one) =
    let cap = wider.cap in
    elim fits.1 [ inl closed ↦ absurd (omega (arith, one.1, closed, linear)) | inr open_ ↦ inr (one.0, open_) ]

choices_wider : (n : ℕ) (marks : List _) (arcs others : List ArcRow) (flow : List ℤ) → AreNoTighter arcs others
    → AllByRecursion (λ arc. IsLawfulRow n arc × ArcFits (Sides marks) arc) others → AllZip IsChoice arcs flow → AllZip IsChoice others flow
choices_wider n marks [] [] flow wider rows chosen = chosen
choices_wider n marks [] (b ∷ others) flow wider rows chosen = absurd wider
choices_wider n marks (a ∷ arcs) [] flow wider rows chosen = absurd wider
choices_wider n marks (a ∷ arcs) (b ∷ others) [] wider rows chosen = absurd chosen
choices_wider n marks (a ∷ arcs) (b ∷ others) (x ∷ flow) wider rows chosen =
    (choice_wider marks a b x wider.0 rows.0.1 chosen.0, choices_wider n marks arcs others flow wider.1 rows.1 chosen.1)

legal_wider : (n : ℕ) (D : Demand) (arcs others : List ArcRow) (room : ℕ) (flow : List ℤ) → AreNoTighter arcs others → IsLawful (made n D others room) → IsLegal (made n D arcs room) flow
    → IsLegal (made n D others room) flow × (worth (made n D others room) flow ≡ worth (made n D arcs room) flow)
legal_wider n (Supplies s) arcs others room flow wider lawful legal = (
  record { bounds = bounds_wider arcs others flow wider legal.bounds; conserved = λ v b. net_wider arcs others flow v wider ∙ legal.conserved v b },
  cost_wider arcs others flow wider,
)
legal_wider n (Terminals source sink) arcs others room flow wider lawful legal = (
  (bounds_wider arcs others flow wider legal.0, λ v b s t. net_wider arcs others flow v wider ∙ legal.1 v b s t),
  net_wider arcs others flow source wider,
)
legal_wider n (Sides marks) arcs others room flow wider lawful legal = (
  (choices_wider n marks arcs others flow wider (rows_of lawful) legal.0, λ v b. chosen_wider arcs others flow v wider ∙ legal.1 v b),
  cost_wider arcs others flow wider,
)

-- a best flow within wider bounds is as good
pub best_within_wider : (I : Instance) (arcs : List ArcRow) (flow other : List ℤ) → AreNoTighter I.arcs arcs → IsLawful (with_arcs I arcs) → IsLegal I flow → IsBest (with_arcs I arcs) other
    → IsAsGood I.demand (worth (with_arcs I arcs) other) (worth I flow)
best_within_wider I arcs flow other wider lawful legal best =
    let same = legal_wider I.nodes I.demand I.arcs arcs I.room flow wider lawful legal in
    rw (sym same.1) (best.best flow same.0)
