-- How large an excess can be, and how it follows from the flow arc by arc.
use Rattle.std.proofs.Common.{◌≡◌, ℕ, suc, ◌+◌, ◌-◌, ◌<◌, ◌≤◌, ℤ, pos, negsuc, ◌-ℤ◌, ◌≤ℤ◌, List, [], ◌∷◌, length, slice_index_or, inl, inr, arith}
use Rattle.std.proofs.lemmas.Int.{ints}
use Rattle.std.proofs.lemmas.List.Elements.{All-get_or}
use Rattle.std.proofs.lemmas.List.Sums.{sum_by-cons, sum_by-le}
use Rattle.dimacs_text.specs.declared.problem.ArcRow.{ArcRow}
use Rattle.dimacs_text.specs.Lawful.{IsWithin}
use Rattle.network.specs.Flow.{AllWithinBounds, flow_sum, net}
use Rattle.network.specs.Instance.{Demand, Supplies, Terminals, Sides, Instance, IsLawful, DemandFits, reduced, reduced_arcs, reduced_supply, return_arc}
use Rattle.residual_graph.specs.Residual.{IsPseudoflow, number_at, row_at}
use Rattle.residual_graph.proofs.NodeNumbers.{IsNodeOf, is_node_or_not}
use Rattle.residual_graph.proofs.Pseudoflows.{flow_of_instance}
use Rattle.flow_changes.specs.Limits.{cap_sum_limit, excess_limit, supply_limit}
use Rattle.augmentation.specs.Nodes.{held}
use Rattle.flow_changes.specs.Push.{only_at, part_above_0, cap_total}
use Rattle.augmentation.proofs.NodeLemmas.{held_node, held_other}

pub at_node_bounds : (u : ℕ) (m : ℤ) (v : ℕ) → pos 0 ≤ℤ m → (pos 0 ≤ℤ only_at u m v) × (only_at u m v ≤ℤ m)
at_node_bounds u m v h = grind (arith, ints)

pub below_part : (z : ℤ) → z ≤ℤ pos (part_above_0 z)
below_part (pos n) = omega (arith, ints)
below_part (negsuc n) = omega (arith, ints)

-- each flow is at least 0 and at most its capacity
abbrev AreWithinCaps : List ArcRow → List ℤ → Type 0
AreWithinCaps arcs x = (k : ℕ) → k < length arcs → (pos 0 ≤ℤ number_at x k) × (number_at x k ≤ℤ (row_at arcs k).cap)

-- what an end of the arcs gives a node
flow_bounds : (end : ArcRow → ℕ) (arcs : List ArcRow) (x : List ℤ) (v : ℕ) → length x ≡ length arcs → AreWithinCaps arcs x → (pos 0 ≤ℤ flow_sum (λ a m. only_at (end a) m v) arcs x) × (flow_sum (λ a m. only_at (end a) m v) arcs x ≤ℤ pos (cap_total arcs))
flow_bounds end [] x v sized within = (omega (arith, ints), omega (arith, ints))
flow_bounds end (a ∷ arcs) (y ∷ x) v sized within =
    let here = within 0 (omega arith) in
    let rest = flow_bounds end arcs x v (omega arith) (λ k lt. within (suc k) (omega arith)) in
    let term = at_node_bounds (end a) y v here.0 in
    (omega (arith, ints, rest.0, term.0), omega (arith, ints, rest.1, term.1, here.1, below_part a.cap, sum_by-cons (λ (b : ArcRow). part_above_0 b.cap) a arcs))
flow_bounds end _ _ v sized within = absurd (omega arith)

caps_of_flow : {nodes : ℕ} {arcs : List ArcRow} {x : List ℤ} → IsPseudoflow nodes arcs x → AreWithinCaps arcs x
caps_of_flow flow k lt =
    (omega (arith, ints, (flow.rows k lt).low_at_least_0, (flow.within k lt).low_kept), (flow.within k lt).cap_kept)

-- ---- an instance within the limits

part_small : (z : ℤ) → z ≤ℤ pos 1000000000 → part_above_0 z ≤ 1000000000
part_small (pos n) h = omega (arith, ints, h)
part_small (negsuc n) h = omega arith

caps_by : (D : Demand) (arcs : List ArcRow) → cap_total (reduced_arcs D arcs) ≤ 100000000000000 + cap_total arcs
caps_by (Terminals source sink) arcs = omega (arith, sum_by-cons (λ (a : ArcRow). part_above_0 a.cap) (return_arc source sink) arcs)
caps_by _ arcs = omega arith

pub caps_of_instance : (I : Instance) → IsLawful I → cap_total (reduced I).arcs ≤ cap_sum_limit
caps_of_instance I lawful =
    let arcs = sum_by-le (λ (a : ArcRow). part_above_0 a.cap) 1000000000 I.arcs (λ k d lt. part_small (slice_index_or I.arcs k d).cap (lawful.arcs k d lt).0.limit) in
    omega (arith, caps_by I.demand I.arcs, arcs, lawful.count, lawful.room)

supply_small : (n : ℕ) (D : Demand) → DemandFits n D → (v : ℕ) → IsNodeOf n v → IsWithin (pos 1000000000) (reduced_supply D v)
supply_small n (Supplies s) fits v node = All-get_or (IsWithin (pos 1000000000)) s (v - 1) (pos 0) (omega (arith, fits.0, node.0, node.1)) fits.1
supply_small n (Terminals source sink) fits v node = (omega (arith, ints), omega (arith, ints))
supply_small n (Sides marks) fits v node = grind (arith, ints)

pub supply_of_instance : (I : Instance) → IsLawful I → (v : ℕ) → IsNodeOf I.nodes v → IsWithin (pos supply_limit) ((reduced I).supply v)
supply_of_instance I lawful v node = (let small = supply_small I.nodes I.demand lawful.demand v node in (omega (arith, ints, small.0), omega (arith, ints, small.1)))

held_small : (I : Instance) (v : ℕ) → IsLawful I → IsWithin (pos supply_limit) (held I.nodes (reduced I).supply v)
held_small I v lawful = elim (is_node_or_not I.nodes v) [
  | inl node ↦ rw (held_node I.nodes (reduced I).supply v node) (supply_of_instance I lawful v node)
  | inr none ↦ rw (held_other I.nodes (reduced I).supply v none) (omega (arith, ints), omega (arith, ints))
]

-- no excess is above what the supplies and all capacities make it
pub excess_small : (I : Instance) (x : List ℤ) (v : ℕ) → IsLawful I → AllWithinBounds (reduced I).arcs x → IsWithin (pos excess_limit) (held I.nodes (reduced I).supply v -ℤ net (reduced I).arcs x v)
excess_small I x v lawful bounds =
    let flow = flow_of_instance I x lawful bounds in
    let out = flow_bounds (λ a. a.tail) (reduced I).arcs x v flow.same_length (caps_of_flow flow) in
    let into = flow_bounds (λ a. a.head) (reduced I).arcs x v flow.same_length (caps_of_flow flow) in
    let caps = caps_of_instance I lawful in
    let supply = held_small I v lawful in
    (omega (arith, ints, supply.0, out.1, into.0, caps), omega (arith, ints, supply.1, out.0, into.1, caps))

pub at_zero : (u v : ℕ) → only_at u (pos 0) v ≡ pos 0
at_zero u v = grind arith
