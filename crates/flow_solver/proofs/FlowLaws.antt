-- Certified flows: where potentials in a table, with an entry for no node in front, are those of the nodes.
use Rattle.std.proofs.Common.{◌≡◌, ℕ, zero, suc, ◌+◌, ◌-◌, ◌<◌, ◌≤◌, ℤ, pos, ◌≤ℤ◌, List, length, slice_index_or, drop, refl, sym, ap, subst, ◌∙◌, inl, inr, arith}
use Rattle.std.proofs.lemmas.Int.{ints}
use Rattle.std.proofs.lemmas.Bool.{cases_lt}
use Rattle.std.proofs.lemmas.Grind.{get_or_after_one}
use Rattle.std.proofs.lemmas.List.{get_or_past}
use Rattle.dimacs_text.specs.declared.problem.ArcRow.{ArcRow}
use Rattle.network.specs.Flow.{IsCertifiedFlow, IsGreatestPotential, IsPotential}
use Rattle.network.specs.Instance.{Instance, IsLawful, at_node, reduced}
use Rattle.network.proofs.Optimality.{certified_same}
use Rattle.network.proofs.Reduction.{reduced_ends}
use Rattle.residual_graph.specs.Graph.{AreRowsOf}
use Rattle.residual_graph.specs.Residual.{AreGreatest, ArePotentials, IsReducedCostOptimal, number_at}
use Rattle.residual_graph.proofs.NodeNumbers.{IsNodeOf}
use Rattle.residual_graph.proofs.Pseudoflows.{bounds_of, flow_of_instance}
use Rattle.residual_graph.proofs.Slackness.{none_below_of, signs_of}
use Rattle.predecessors.specs.Limits.{label_floor}
use Rattle.augmentation.specs.Nodes.{IsIdleEntry}
use Rattle.augmentation.proofs.CertificateLemmas.{within_potentials}

pub node_entry : {A : Type 0} (xs : List A) (v : ℕ) (d : A) → 1 ≤ v → slice_index_or (drop 1 xs) (v - 1) d ≡ slice_index_or xs v d
node_entry xs v d some = (let e : 1 + (v - 1) ≡ v = omega (arith, some) in get_or_after_one xs (v - 1) d ∙ ap (λ (w : ℕ). slice_index_or xs w d) e)

at_entry : (p : List ℤ) (v : ℕ) → 1 ≤ v → at_node (drop 1 p) v ≡ number_at p v
at_entry p v some = node_entry p v (pos 0) some

pub potentials_of : (n : ℕ) (p : List ℤ) → length p ≡ n + 1 → IsIdleEntry p → ((v : ℕ) → IsNodeOf n v → IsPotential (at_node (drop 1 p) v)) → ArePotentials (length p) label_floor p
potentials_of n p sized idle range = record { sized = refl; at_most_0 = λ v. (all v).1; at_least = λ v. (all v).0 }
  where
    all : (v : ℕ) → IsPotential (number_at p v)
    all zero = idle
    all (suc v) = elim (cases_lt v n) [
      | inl lt ↦ subst IsPotential (at_entry p (suc v) (omega arith)) (range (suc v) (omega arith, omega arith))
      | inr past ↦ rw (get_or_past p (suc v) (pos 0) (omega (arith, sized))) (omega (arith, ints), omega (arith, ints))
    ]

module _ (I : Instance) (x p : List ℤ) (lawful : IsLawful I) where
  pub optimal_of : length p ≡ I.nodes + 1 → IsIdleEntry p → IsCertifiedFlow (reduced I) x (at_node (drop 1 p)) → IsReducedCostOptimal (reduced I).arcs x p
  optimal_of sized idle certified = record {
    flow = rw sized (flow_of_instance I x lawful certified.bounds);
    potentials = within_potentials (length p) p (potentials_of I.nodes p sized idle certified.range);
    none_below = none_below_of (number_at p) (reduced I).arcs x (certified_same (reduced I) (at_node (drop 1 p)) (number_at p) (λ v node. sym (at_entry p v node.0)) x (reduced_ends I lawful) certified).signs;
  }

  pub certified_of : IsReducedCostOptimal (reduced I).arcs x p → ArePotentials (length p) label_floor p → IsCertifiedFlow (reduced I) x (at_node (drop 1 p))
  certified_of optimal potentials =
      certified_same (reduced I) (number_at p) (at_node (drop 1 p)) (λ v node. at_entry p v node.0) x (reduced_ends I lawful) (record {
        bounds = bounds_of optimal.flow;
        signs = signs_of (number_at p) (reduced I).arcs x (bounds_of optimal.flow) optimal.none_below;
        range = λ v node. (omega (arith, ints, potentials.at_least v), potentials.at_most_0 v);
      })

-- potentials of which none is below 0 are the greatest
pub greatest_at_0 : (I : Instance) (x p : List ℤ) → length p ≡ I.nodes + 1 → ((v : ℕ) → v < length p → pos 0 ≤ℤ number_at p v) → IsGreatestPotential (reduced I) x (at_node (drop 1 p))
greatest_at_0 I x p sized none_below = record {
  none_above = λ other certified v node. omega (arith, ints, (certified.range v node).1, none_below v (omega (arith, sized, node.1)), at_entry p v node.0);
}

pub greatest_of : (I : Instance) (rows : List ArcRow) (x p : List ℤ) → AreRowsOf I rows → AreGreatest rows x p → IsGreatestPotential (reduced I) x (at_node (drop 1 p))
greatest_of I rows x p of greatest = record {
  none_above = λ other certified v node. (let below = (greatest (reduced I) (sym of.rows_are) (reduced_ends I of.lawful)).none_above other certified v node in omega (arith, ints, below, at_entry p v node.0));
}
