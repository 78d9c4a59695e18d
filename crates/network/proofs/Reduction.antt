-- Legal flows, best flows and breaches of each kind are those of its reduced instance.
use Rattle.std.proofs.Common.{ap, refl, ◌≡◌, ◌≢◌, ℕ, ◌≤◌, ℤ, pos, neg_ℤ, ◌≤ℤ◌, Bool, List, [], ◌∷◌, length, replicate, arith}
use Rattle.std.proofs.lemmas.Int.{ints, by_lt_z}
use Rattle.std.proofs.lemmas.List.Elements.{recursion_from_All}
use Rattle.std.specs.List.{AllByRecursion}
use Rattle.dimacs_text.specs.declared.problem.ArcRow.{ArcRow}
use Rattle.dimacs_text.specs.Lawful.{IsLawfulRow}
use Rattle.network.specs.Flow.{MinCost, AllEndsAreNodes, net, total_cost, AllWithinBounds, IsLegalFlow}
use Rattle.network.specs.Instance.{numbered_flow, reduced_flow, Demand, Supplies, Terminals, Sides, Instance, DemandFits, ArcFits, IsLawful, return_arc, reduced, reduced_arcs, reduced_supply, IsLegal, IsLegalBy, IsBest, IsCertified, IsBreach}
use Rattle.network.proofs.IntegerAlgebra.{linear}
use Rattle.network.proofs.Optimality.{certified_is_least}
use Rattle.network.proofs.Cuts.{no_legal_flow}
use Rattle.network.proofs.Assignment as assignment
use Rattle.network.proofs.Circulation as circulation

-- the rows one after another
abbrev pub rows_of : {I : Instance} → IsLawful I → AllByRecursion (λ arc. IsLawfulRow I.nodes arc × ArcFits I.demand arc) I.arcs
rows_of {I} lawful = recursion_from_All (λ arc. IsLawfulRow I.nodes arc × ArcFits I.demand arc) I.arcs lawful.arcs

-- the limits hold of the rows, so their ends are nodes
ends_from_limits : (n : ℕ) (D : Demand) (arcs : List ArcRow) → AllByRecursion (λ arc. IsLawfulRow n arc × ArcFits D arc) arcs
    → AllByRecursion (λ arc. ((1 ≤ arc.tail) × (arc.tail ≤ n)) × ((1 ≤ arc.head) × (arc.head ≤ n))) arcs
ends_from_limits n D [] fits = tt
ends_from_limits n D (arc ∷ arcs) fits = ((fits.0.0.tail, fits.0.0.head), ends_from_limits n D arcs fits.1)

pub reduced_ends : (I : Instance) → IsLawful I → AllEndsAreNodes (reduced I)
reduced_ends I lawful = go I.demand lawful.demand (ends_from_limits I.nodes I.demand I.arcs (rows_of lawful))
  where
    go : (D : Demand) → DemandFits I.nodes D → AllByRecursion (λ arc. ((1 ≤ arc.tail) × (arc.tail ≤ I.nodes)) × ((1 ≤ arc.head) × (arc.head ≤ I.nodes))) I.arcs
        → AllByRecursion (λ arc. ((1 ≤ arc.tail) × (arc.tail ≤ I.nodes)) × ((1 ≤ arc.head) × (arc.head ≤ I.nodes))) (reduced_arcs D I.arcs)
    go (Terminals source sink) fits ends = ((fits.1, fits.0), ends)
    go _ fits ends = ends

-- ---- assignments

pub assignment_to_reduced : (I : Instance) (marks : List Bool) (flow : List ℤ) → AllByRecursion (λ arc. IsLawfulRow I.nodes arc × ArcFits (Sides marks) arc) I.arcs
    → IsLegalBy (Sides marks) I flow → IsLegalFlow (record { nodes = I.nodes; supply = reduced_supply (Sides marks); arcs = I.arcs }) flow
assignment_to_reduced I marks flow rows legal = record {
  bounds = assignment.choices_are_bounded I.nodes marks I.arcs flow rows legal.0;
  conserved = λ v b. assignment.net_from_chosen I.nodes marks v I.arcs flow rows (legal.1 v b);
}

pub assignment_from_reduced : (I : Instance) (marks : List Bool) (flow : List ℤ) → AllByRecursion (λ arc. IsLawfulRow I.nodes arc × ArcFits (Sides marks) arc) I.arcs
    → IsLegalFlow (record { nodes = I.nodes; supply = reduced_supply (Sides marks); arcs = I.arcs }) flow → IsLegalBy (Sides marks) I flow
assignment_from_reduced I marks flow rows legal = (
  assignment.bounded_are_choices I.nodes marks I.arcs flow rows legal.bounds,
  λ v b. assignment.chosen_from_net I.nodes marks v I.arcs flow rows (legal.conserved v b),
)

-- ---- flows from source to sink

abbrev circulations : ℕ → ℕ → ℕ → List ArcRow → MinCost
circulations n source sink arcs = record { nodes = n; supply = λ v. pos 0; arcs = return_arc source sink ∷ arcs }

module _ (n source sink : ℕ) (arcs : List ArcRow) (fits : DemandFits n (Terminals source sink)) (rows : AllByRecursion (λ arc. IsLawfulRow n arc × ArcFits (Terminals source sink) arc) arcs) (few : length arcs ≤ 100000) where
  pub flow_to_reduced : (flow : List ℤ) → AllWithinBounds arcs flow → ((v : ℕ) → (1 ≤ v) × (v ≤ n) → v ≢ source → v ≢ sink → net arcs flow v ≡ pos 0) → pos 0 ≤ℤ net arcs flow source
      → IsLegalFlow (circulations n source sink arcs) (net arcs flow source ∷ flow)
  flow_to_reduced flow bounds others value =
      let top = circulation.net_below n source sink arcs flow source rows bounds in
      record {
        bounds = ((value, omega (arith, ints)), bounds);
        conserved = circulation.circulates n source sink arcs flow fits (ends_from_limits n (Terminals source sink) arcs rows) others;
      }

  -- the cost of a circulation is what the return arc carries, negated
  pub cost_is_value : (flow : List ℤ) (x : ℤ) → total_cost (return_arc source sink ∷ arcs) (x ∷ flow) ≡ neg_ℤ x
  cost_is_value flow x = let free = circulation.free_of_cost n source sink arcs flow rows in omega (arith, ints)

  pub zero_is_legal : IsLegalFlow (circulations n source sink arcs) (pos 0 ∷ replicate (length arcs) (pos 0))
  zero_is_legal =
      let zeros = replicate (length arcs) (pos 0) in
      let none = circulation.zero_net arcs source in
      let legal = flow_to_reduced zeros (circulation.zero_bounds n source sink arcs rows) (λ v b s t. circulation.zero_net arcs v) (omega (arith, linear)) in
      rw none at legal

-- ---- all kinds

abbrev pub made : ℕ → Demand → List ArcRow → ℕ → Instance
made n D arcs room = record { nodes = n; demand = D; arcs = arcs; room = room }

certified_by : (n : ℕ) (D : Demand) (arcs : List ArcRow) (room : ℕ) (flow : List ℤ) (p : ℕ → ℤ) → IsLawful (made n D arcs room) → IsLegal (made n D arcs room) flow → IsCertified (made n D arcs room) flow p
    → IsBest (made n D arcs room) flow
certified_by n (Supplies s) arcs room flow p lawful legal certified = record {
  legal = legal;
  best = (certified_is_least (reduced (made n (Supplies s) arcs room)) flow p (reduced_ends (made n (Supplies s) arcs room) lawful) legal certified).least;
}
certified_by n (Terminals source sink) arcs room flow p lawful legal certified =
    let I = made n (Terminals source sink) arcs room in
    let few : length arcs ≤ 100000 = omega (arith, lawful.count, lawful.room) in
    let x = net arcs flow source in
    let value : pos 0 ≤ℤ x = certified.bounds.0.0 in
    let least = certified_is_least (reduced I) (x ∷ flow) p (reduced_ends I lawful) (flow_to_reduced n source sink arcs lawful.demand (rows_of lawful) few flow legal.0 legal.1 value) certified in
    record {
      legal = legal;
      best = λ other h. by_lt_z (net arcs other source) (pos 0)
          (λ below. omega (arith, linear))
          (λ above.
          let y = net arcs other source in
          let le = least.least (y ∷ other) (flow_to_reduced n source sink arcs lawful.demand (rows_of lawful) few other h.0 h.1 above) in
          let c = cost_is_value n source sink arcs lawful.demand (rows_of lawful) few flow x in
          let d = cost_is_value n source sink arcs lawful.demand (rows_of lawful) few other y in
          omega (arith, linear));
    }
certified_by n (Sides marks) arcs room flow p lawful legal certified =
    let I = made n (Sides marks) arcs room in
    let least = certified_is_least (reduced I) flow p (reduced_ends I lawful) (assignment_to_reduced I marks flow (rows_of lawful) legal) certified in
    record { legal = legal; best = λ other h. least.least other (assignment_to_reduced I marks other (rows_of lawful) h) }

-- a legal flow that potentials certify is a best one
pub certified_is_best : (I : Instance) (flow : List ℤ) (p : ℕ → ℤ) → IsLawful I → IsLegal I flow → IsCertified I flow p → IsBest I flow
certified_is_best I flow p lawful legal certified = certified_by I.nodes I.demand I.arcs I.room flow p lawful legal certified

breach_by : (n : ℕ) (D : Demand) (arcs : List ArcRow) (room : ℕ) (set : ℕ → Bool) (d : ℤ) → IsLawful (made n D arcs room) → IsBreach (made n D arcs room) set d
    → (flow : List ℤ) → IsLegal (made n D arcs room) flow → ⊥
breach_by n (Supplies s) arcs room set d lawful breach flow legal =
    let I = made n (Supplies s) arcs room in no_legal_flow (reduced I) set d (reduced_ends I lawful) breach flow legal
breach_by n (Terminals source sink) arcs room set d lawful breach flow legal =
    let I = made n (Terminals source sink) arcs room in
    let few : length arcs ≤ 100000 = omega (arith, lawful.count, lawful.room) in
    no_legal_flow (reduced I) set d (reduced_ends I lawful) breach _ (zero_is_legal n source sink arcs lawful.demand (rows_of lawful) few)
breach_by n (Sides marks) arcs room set d lawful breach flow legal =
    let I = made n (Sides marks) arcs room in no_legal_flow (reduced I) set d (reduced_ends I lawful) breach flow (assignment_to_reduced I marks flow (rows_of lawful) legal)

-- where there is a breach, no legal flow exists
pub breach_rules_out : (I : Instance) (set : ℕ → Bool) (d : ℤ) → IsLawful I → IsBreach I set d → (flow : List ℤ) → IsLegal I flow → ⊥
breach_rules_out I set d lawful breach flow legal = breach_by I.nodes I.demand I.arcs I.room set d lawful breach flow legal

from_reduced_by : (n : ℕ) (D : Demand) (arcs : List ArcRow) (room : ℕ) (flow : List ℤ) → IsLawful (made n D arcs room) → IsLegalFlow (reduced (made n D arcs room)) flow
    → IsLegal (made n D arcs room) (numbered_flow D flow) × (flow ≡ reduced_flow (made n D arcs room) (numbered_flow D flow))
from_reduced_by n (Supplies s) arcs room flow lawful legal = (legal, refl)
from_reduced_by n (Terminals source sink) arcs room [] lawful legal = absurd legal.bounds
from_reduced_by n (Terminals source sink) arcs room (x ∷ flow) lawful legal = (
  (legal.bounds.1, λ v b s t. circulation.from_circulation source sink arcs flow x v (legal.conserved v b) s t),
  ap (λ y. y ∷ flow) (circulation.return_flow_is source sink arcs flow x (legal.conserved source lawful.demand.0) lawful.demand.2),
)
from_reduced_by n (Sides marks) arcs room flow lawful legal = (assignment_from_reduced (made n (Sides marks) arcs room) marks flow (rows_of lawful) legal, refl)

-- a legal flow of the reduced instance is one of the instance, and its return arc carries what the source sends out
pub from_reduced : (I : Instance) (flow : List ℤ) → IsLawful I → IsLegalFlow (reduced I) flow → IsLegal I (numbered_flow I.demand flow) × (flow ≡ reduced_flow I (numbered_flow I.demand flow))
from_reduced I flow lawful legal = from_reduced_by I.nodes I.demand I.arcs I.room flow lawful legal
