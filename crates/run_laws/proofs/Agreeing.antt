-- Answers to the same instance agree.
use Rattle.std.proofs.Common.{◌≡◌, ◌≢◌, ℕ, suc, ◌-◌, ◌≤◌, Bool, true, false, ℤ, pos, ◌≤ℤ◌, List, length, get_or, ext_get_or, refl, sym, ap, subst, ◌∙◌, arith}
use Rattle.std.proofs.lemmas.Int.{by_lt_z}
use Rattle.network.proofs.IntegerAlgebra.{linear}
use Rattle.network.specs.Flow.{MinCost, IsNode, surplus_of, IsGreatestPotential, IsLeastGreatestSurplus, IsLeastGreatestShortfall, IsCertifiedFlow}
use Rattle.network.specs.Instance.{Demand, Supplies, Terminals, Sides, Instance, IsLawful, IsBest, IsLegalBy, IsCertified, IsAsGood, at_node, is_marked, numbered_flow, reduced, reduced_flow, worth}
use Rattle.flow_solver.specs.Moment.{Moment}
use Rattle.flow_solver.specs.Answer.{IsAnswered, IsVerdict, IsChosenCut, IsChosenBreach}
use Rattle.flow_solver.specs.declared.verdict.Verdict.{Verdict}
use Rattle.flow_solver.specs.declared.verdict.Verdict.TheVariants.{Best, Infeasible}
use Rattle.run_laws.proofs.Certifying.{certified_of_best}

-- ---- equal numbers

both_ways : (a b : ℤ) → a ≤ℤ b → b ≤ℤ a → a ≡ b
both_ways a b h k = omega (arith, linear)

-- numbers that cannot differ are equal
stable : (a b : ℤ) → ((a ≢ b) → ⊥) → a ≡ b
stable a b h =
    by_lt_z a b (λ less. absurd (h (λ e. absurd (omega (arith, linear)))))
    (λ rest. by_lt_z b a (λ more. absurd (h (λ e. absurd (omega (arith, linear))))) (λ rest2. omega (arith, linear)))

stable_bool : (a b : Bool) → ((a ≢ b) → ⊥) → a ≡ b
stable_bool true true h = refl
stable_bool true false h = absurd (h (λ e. cc))
stable_bool false true h = absurd (h (λ e. cc))
stable_bool false false h = refl

-- ---- breaches

surplus_same : (I : MinCost) (s t : ℕ → Bool) (d e : ℤ) → IsLeastGreatestSurplus I s d → IsLeastGreatestSurplus I t e → d ≡ e
surplus_same I s t d e a b = both_ways d e (subst (λ (z : ℤ). z ≤ℤ e) a.value (b.greatest s)) (subst (λ (z : ℤ). z ≤ℤ d) b.value (a.greatest t))

shortfall_same : (I : MinCost) (s t : ℕ → Bool) (d e : ℤ) → IsLeastGreatestShortfall I s d → IsLeastGreatestShortfall I t e → d ≡ e
shortfall_same I s t d e a b = both_ways d e (subst (λ (z : ℤ). z ≤ℤ e) a.value (b.greatest s)) (subst (λ (z : ℤ). z ≤ℤ d) b.value (a.greatest t))

-- either both are chosen by the first form or by the second: so whatever cannot be wrong in these cases is right
by_forms : (I : MinCost) (s t : ℕ → Bool) (d e : ℤ) (P : Type 0) → IsChosenBreach I s d → IsChosenBreach I t e
    → (IsLeastGreatestSurplus I s d → IsLeastGreatestSurplus I t e → P) → (IsLeastGreatestShortfall I s d → IsLeastGreatestShortfall I t e → P) → (P → ⊥) → ⊥
by_forms I s t d e P a b first second never =
    let none : (other : ℕ → Bool) → surplus_of I other ≤ℤ pos 0 = λ other.
    by_lt_z (pos 0) (surplus_of I other) (λ above. absurd (never (first (a.surplus other above) (b.surplus other above)))) (λ rest. omega (arith, linear)) in
    never (second (a.shortfall none) (b.shortfall none))

shortage_same : (I : MinCost) (s t : ℕ → Bool) (d e : ℤ) → IsChosenBreach I s d → IsChosenBreach I t e → d ≡ e
shortage_same I s t d e a b = stable d e (by_forms I s t d e (d ≡ e) a b (surplus_same I s t d e) (shortfall_same I s t d e))

iff_bool : (a b : Bool) → (a ≡ true → b ≡ true) → (b ≡ true → a ≡ true) → a ≡ b
iff_bool true true h k = refl
iff_bool true false h k = sym (h refl)
iff_bool false true h k = k refl
iff_bool false false h k = refl

node_same : (I : MinCost) (s t : ℕ → Bool) (d e : ℤ) → IsChosenBreach I s d → IsChosenBreach I t e → (v : ℕ) → IsNode I v → s v ≡ t v
node_same I s t d e a b v node = stable_bool (s v) (t v) (by_forms I s t d e (s v ≡ t v) a b
    (λ f g. let same = surplus_same I s t d e f g in iff_bool (s v) (t v) (f.least t (g.value ∙ sym same) v node) (g.least s (f.value ∙ same) v node))
    (λ f g. let same = shortfall_same I s t d e f g in iff_bool (s v) (t v) (f.least t (g.value ∙ sym same) v node) (g.least s (f.value ∙ same) v node)))

-- ---- verdicts

as_good_both : (D : Demand) (a b : ℤ) → IsAsGood D a b → IsAsGood D b a → a ≡ b
as_good_both (Supplies s) a b h k = both_ways a b h k
as_good_both (Terminals source sink) a b h k = both_ways a b k h
as_good_both (Sides marks) a b h k = both_ways a b h k

-- the room for arcs is no matter of legal flows
pub to_room : (I : Instance) (room : ℕ) (D : Demand) (flow : List ℤ) → IsLegalBy D I flow → IsLegalBy D (record I { room = room }) flow
to_room I room (Supplies s) flow legal = legal
to_room I room (Terminals source sink) flow legal = legal
to_room I room (Sides marks) flow legal = legal

pub from_room : (I : Instance) (room : ℕ) (D : Demand) (flow : List ℤ) → IsLegalBy D (record I { room = room }) flow → IsLegalBy D I flow
from_room I room (Supplies s) flow legal = legal
from_room I room (Terminals source sink) flow legal = legal
from_room I room (Sides marks) flow legal = legal

verdict_same : (I : Instance) (room : ℕ) (u v : Verdict) (x y : List ℤ) (s t : ℕ → Bool) → IsVerdict u I x s → IsVerdict v (record I { room = room }) y t
    → IsChosenCut u (reduced I) s → IsChosenCut v (reduced I) t → v ≡ u
verdict_same I room (Best w) (Best z) x y s t a b c d =
    ap Best (b.worth_is ∙ as_good_both I.demand (worth I (numbered_flow I.demand y)) (worth I (numbered_flow I.demand x)) (b.best.best (numbered_flow I.demand x) (to_room I room I.demand (numbered_flow I.demand x) a.best.legal)) (a.best.best (numbered_flow I.demand y) (from_room I room I.demand (numbered_flow I.demand y) b.best.legal)) ∙ sym a.worth_is)
verdict_same I room (Best w) (Infeasible e) x y s t a b c d = absurd (b.none_legal (numbered_flow I.demand x) (to_room I room I.demand (numbered_flow I.demand x) a.best.legal))
verdict_same I room (Infeasible e) (Best z) x y s t a b c d = absurd (a.none_legal (numbered_flow I.demand y) (from_room I room I.demand (numbered_flow I.demand y) b.best.legal))
verdict_same I room (Infeasible e) (Infeasible f) x y s t a b c d = ap Infeasible (shortage_same (reduced I) t s f e d c)

pub same_verdict : (a b : Moment) (room : ℕ) → b.instance ≡ record a.instance { room = room } → IsAnswered a → IsAnswered b → b.verdict ≡ a.verdict
same_verdict a b room is A B =
    verdict_same a.instance room a.verdict b.verdict a.flow b.flow (is_marked a.cut) (is_marked b.cut) A.verdict
    (subst (λ (J : Instance). IsVerdict b.verdict J b.flow (is_marked b.cut)) is B.verdict) A.chosen
    (subst (λ (J : Instance). IsChosenCut b.verdict (reduced J) (is_marked b.cut)) is B.chosen)

-- ---- cuts

cut_same : (I : Instance) (room : ℕ) (u v : Verdict) (x y : List ℤ) (s t : ℕ → Bool) → IsVerdict u I x s → IsVerdict v (record I { room = room }) y t
    → IsChosenCut u (reduced I) s → IsChosenCut v (reduced I) t → (k : ℕ) → IsNode (reduced I) k → t k ≡ s k
cut_same I room (Best w) (Best z) x y s t a b c d k node = b.none_marked k ∙ sym (a.none_marked k)
cut_same I room (Best w) (Infeasible e) x y s t a b c d k node = absurd (b.none_legal (numbered_flow I.demand x) (to_room I room I.demand (numbered_flow I.demand x) a.best.legal))
cut_same I room (Infeasible e) (Best z) x y s t a b c d k node = absurd (a.none_legal (numbered_flow I.demand y) (from_room I room I.demand (numbered_flow I.demand y) b.best.legal))
cut_same I room (Infeasible e) (Infeasible f) x y s t a b c d k node = node_same (reduced I) t s f e d c k node

by_places : {A : Type 0} (d : A) (n : ℕ) (xs ys : List A) → length xs ≡ n → length ys ≡ n → ((v : ℕ) → (1 ≤ v) × (v ≤ n) → get_or xs (v - 1) d ≡ get_or ys (v - 1) d) → xs ≡ ys
by_places d n xs ys a b same = ext_get_or d xs ys (a ∙ sym b) (λ i lt.
    let at : suc i - 1 ≡ i = omega arith in subst (λ (k : ℕ). get_or xs k d ≡ get_or ys k d) at (same (suc i) (omega arith, omega (arith, a))))

pub same_cut : (a b : Moment) (room : ℕ) → b.instance ≡ record a.instance { room = room } → IsAnswered a → IsAnswered b → b.cut ≡ a.cut
same_cut a b room is A B =
    by_places false a.instance.nodes b.cut a.cut (B.sized.one_mark ∙ ap (λ (J : Instance). J.nodes) is) A.sized.one_mark
    (cut_same a.instance room a.verdict b.verdict a.flow b.flow (is_marked a.cut) (is_marked b.cut) A.verdict
    (subst (λ (J : Instance). IsVerdict b.verdict J b.flow (is_marked b.cut)) is B.verdict) A.chosen
    (subst (λ (J : Instance). IsChosenCut b.verdict (reduced J) (is_marked b.cut)) is B.chosen))

-- ---- potentials

potential_le : (I : Instance) (room : ℕ) (x y : List ℤ) (p q : ℕ → ℤ) → IsLawful I → IsBest I (numbered_flow I.demand x) → IsBest I (numbered_flow I.demand y) → x ≡ reduced_flow I (numbered_flow I.demand x) → y ≡ reduced_flow I (numbered_flow I.demand y)
    → IsCertifiedFlow (reduced I) x p → IsGreatestPotential (reduced I) y q → (v : ℕ) → IsNode (reduced I) v → p v ≤ℤ q v
potential_le I room x y p q lawful best other x_is y_is certified greatest v node =
    let of_x : IsCertified I (numbered_flow I.demand x) p = subst (λ (z : List ℤ). IsCertifiedFlow (reduced I) z p) x_is certified in
    let of_y : IsCertified I (numbered_flow I.demand y) p = certified_of_best I (numbered_flow I.demand x) (numbered_flow I.demand y) p lawful best other of_x in
    greatest.none_above p (subst (λ (z : List ℤ). IsCertifiedFlow (reduced I) z p) (sym y_is) of_y) v node

best_room : (I : Instance) (room : ℕ) (D : Demand) (flow : List ℤ) → IsBest (record I { room = room }) flow → IsBest I flow
best_room I room D flow best = record {
  legal = from_room I room I.demand flow best.legal;
  best = λ other legal. best.best other (to_room I room I.demand other legal);
}

potential_same : (I : Instance) (room : ℕ) (u v : Verdict) (w : ℤ) (x y : List ℤ) (s t : ℕ → Bool) (p q : ℕ → ℤ) → IsLawful I → u ≡ Best w → v ≡ Best w → IsVerdict u I x s → IsVerdict v (record I { room = room }) y t
    → IsCertifiedFlow (reduced I) x p → IsCertifiedFlow (reduced I) y q → IsGreatestPotential (reduced I) x p → IsGreatestPotential (reduced I) y q → (k : ℕ) → IsNode (reduced I) k → q k ≡ p k
potential_same I room u v w x y s t p q lawful is is' a b c d e f k node =
    let best : IsVerdict (Best w) I x s = subst (λ (z : Verdict). IsVerdict z I x s) is a in
    let other : IsVerdict (Best w) (record I { room = room }) y t = subst (λ (z : Verdict). IsVerdict z (record I { room = room }) y t) is' b in
    let here = best_room I room I.demand (numbered_flow I.demand y) other.best in
    both_ways (q k) (p k) (potential_le I room y x q p lawful here best.best other.reduced_is best.reduced_is d e k node) (potential_le I room x y p q lawful best.best here best.reduced_is other.reduced_is c f k node)

pub same_potentials : (a b : Moment) (room : ℕ) (w : ℤ) → b.instance ≡ record a.instance { room = room } → a.verdict ≡ Best w → IsAnswered a → IsAnswered b → b.potentials ≡ a.potentials
same_potentials a b room w is told A B =
    by_places (pos 0) a.instance.nodes b.potentials a.potentials (B.sized.one_potential ∙ ap (λ (J : Instance). J.nodes) is) A.sized.one_potential
    (potential_same a.instance room a.verdict b.verdict w a.flow b.flow (is_marked a.cut) (is_marked b.cut) (at_node a.potentials) (at_node b.potentials) A.sized.lawful told (same_verdict a b room is A B ∙ told) A.verdict
    (subst (λ (J : Instance). IsVerdict b.verdict J b.flow (is_marked b.cut)) is B.verdict) A.certified
    (subst (λ (J : Instance). IsCertifiedFlow (reduced J) b.flow (at_node b.potentials)) is B.certified) A.greatest
    (subst (λ (J : Instance). IsGreatestPotential (reduced J) b.flow (at_node b.potentials)) is B.greatest))
