-- Labels that are told with predecessors.
use Rattle.std.proofs.Common.{◌≡◌, ℕ, zero, suc, ◌<◌, ◌≤◌, ℤ, pos, ◌≤ℤ◌, List, length, ap, inl, inr, arith}
use Rattle.std.proofs.lemmas.Int.{ints}
use Rattle.std.proofs.lemmas.Bool.{cases_lt}
use Rattle.std.proofs.lemmas.List.{get_or_past}
use Rattle.dimacs_text.specs.declared.problem.ArcRow.{ArcRow}
use Rattle.network.specs.Flow.{MinCost, AllEndsAreNodes, IsCertifiedFlow, IsNode}
use Rattle.residual_graph.specs.declared.residual.Way.{Way}
use Rattle.predecessors.specs.declared.predecessor.Predecessor.{Predecessor}
use Rattle.residual_graph.specs.Residual.{AreGreatest, NoneBelowBy, number_at, start_at}
use Rattle.residual_graph.proofs.NodeNumbers.{ends_in}
use Rattle.residual_graph.proofs.Slackness.{none_below_of}
use Rattle.predecessors.specs.Predecessor.{IsTracedAt, arc_to, rank_at, way_to}

-- labels that are 0 or come along residual arcs are the greatest: what certifies the flow is no greater at the nodes of lower rank
module _ (arcs : List ArcRow) (x q : List ℤ) (t : List Predecessor) (traced : (v : ℕ) → v < length q → IsTracedAt arcs x q t v) where
  traced_or_0 : (v : ℕ) → IsTracedAt arcs x q t v
  traced_or_0 v = elim (cases_lt v (length q)) [
    | inl lt ↦ traced v lt
    | inr past ↦ inl (get_or_past q v (pos 0) past)
  ]

  -- no potentials that certify the flow are above them, whatever the nodes of these arcs have to send out
  module _ (I : MinCost) (same : I.arcs ≡ arcs) (ends : AllEndsAreNodes I) (r : ℕ → ℤ) (certified : IsCertifiedFlow I x r) where
    start_in : (k : ℕ) (way : Way) → k < length arcs → IsNode I (start_at arcs k way)
    start_in k way lt = (ends_in I.nodes arcs (rw same at ends) k way lt).0

    none_below : NoneBelowBy arcs x r
    none_below = none_below_of r arcs x (rw same at certified.signs)

    no_greater : (rank v : ℕ) → IsNode I v → rank_at t v ≤ rank → r v ≤ℤ number_at q v
    no_greater zero v node le = elim (traced_or_0 v) [
      | inl flat ↦ omega (arith, ints, (certified.range v node).1, flat)
      | inr along ↦ absurd (omega (arith, along.1.lower, le))
    ]
    no_greater (suc rank) v node le = elim (traced_or_0 v) [
      | inl flat ↦ omega (arith, ints, (certified.range v node).1, flat)
      | inr along ↦
          (let before = no_greater rank (start_at arcs (arc_to t v) (way_to t v)) (start_in (arc_to t v) (way_to t v) along.0) (omega (arith, along.1.lower, le)) in
          let kept = none_below (arc_to t v) (way_to t v) (record { is_arc = along.0; has_room = along.1.has_room }) in
          omega (arith, ints, before, kept, along.1.tight, ap r along.1.ends, ap (number_at q) along.1.ends))
    ]

  pub greatest_of : AreGreatest arcs x q
  greatest_of I same ends = record { none_above = λ r certified v node. no_greater I same ends r certified (rank_at t v) v node (omega arith) }
