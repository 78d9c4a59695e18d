-- A flow within the bounds is a pseudoflow within the limits, and the other way round.
use Rattle.std.proofs.Common.{ℕ, zero, suc, ◌+◌, ◌<◌, ℤ, pos, List, length, arith, All}
use Rattle.std.proofs.lemmas.Int.{ints}
use Rattle.std.proofs.lemmas.Slice.Zip.{AllZip-long}
use Rattle.dimacs_text.specs.declared.problem.ArcRow.{ArcRow}
use Rattle.dimacs_text.specs.Lawful.{IsLawfulRow}
use Rattle.network.specs.Flow.{AllWithinBounds, IsWithinBounds}
use Rattle.network.specs.Instance.{Demand, Terminals, Instance, IsLawful, ArcFits, DemandFits, reduced, reduced_arcs}
use Rattle.network.proofs.Places.{zip_at, zip_from}
use Rattle.residual_graph.specs.Graph.{graph_of}
use Rattle.residual_graph.specs.Residual.{IsPseudoflow, IsRow, IsWithinRow, number_at, row_at}
use Rattle.residual_graph.proofs.GraphLemmas.{is_graph}
use Rattle.residual_graph.proofs.WalkLemmas.{few_rows}

row_within : (n : ℕ) (a : ArcRow) → IsLawfulRow n a → IsRow (n + 1) a
row_within n a keeps = record { tail_in = omega (arith, keeps.tail.1); head_in = omega (arith, keeps.head.1); low_at_least_0 = keeps.low; low_at_most_cap = keeps.cap; cap_in = omega (arith, ints, keeps.limit); cost_low = omega (arith, ints, keeps.cost.0); cost_high = omega (arith, ints, keeps.cost.1) }

rows_by : (n : ℕ) (D : Demand) (arcs : List ArcRow) → DemandFits n D → All (λ arc. IsLawfulRow n arc × ArcFits D arc) arcs → (k : ℕ) → k < length (reduced_arcs D arcs) → IsRow (n + 1) (row_at (reduced_arcs D arcs) k)
rows_by n (Terminals source sink) arcs fits keeps zero lt = record { tail_in = omega (arith, fits.1.1); head_in = omega (arith, fits.0.1); low_at_least_0 = omega (arith, ints); low_at_most_cap = omega (arith, ints); cap_in = omega (arith, ints); cost_low = omega (arith, ints); cost_high = omega (arith, ints) }
rows_by n (Terminals source sink) arcs fits keeps (suc k) lt = row_within n _ (keeps k _ (omega arith)).0
rows_by n _ arcs fits keeps k lt = row_within n _ (keeps k _ lt).0

pub rows_of_instance : (I : Instance) → IsLawful I → (k : ℕ) → k < length (reduced I).arcs → IsRow (I.nodes + 1) (row_at (reduced I).arcs k)
rows_of_instance I lawful k lt = rows_by I.nodes I.demand I.arcs lawful.demand lawful.arcs k lt

pub bounds_at : (arcs : List ArcRow) (x : List ℤ) → AllWithinBounds arcs x → (k : ℕ) → k < length arcs → IsWithinRow (row_at arcs k) (number_at x k)
bounds_at arcs x bounds k lt = (let at = zip_at IsWithinBounds _ (pos 0) arcs x bounds k lt in record { low_kept = at.0; cap_kept = at.1 })

pub bounds_of : {nodes : ℕ} {arcs : List ArcRow} {x : List ℤ} → IsPseudoflow nodes arcs x → AllWithinBounds arcs x
bounds_of flow = zip_from IsWithinBounds _ (pos 0) _ _ flow.same_length (λ k lt. ((flow.within k lt).low_kept, (flow.within k lt).cap_kept))

pub flow_of_instance : (I : Instance) (x : List ℤ) → IsLawful I → AllWithinBounds (reduced I).arcs x → IsPseudoflow (I.nodes + 1) (reduced I).arcs x
flow_of_instance I x lawful bounds = record {
  few_nodes = omega (arith, lawful.nodes.1);
  few_arcs = few_rows (graph_of I) (is_graph I lawful).rows;
  same_length = AllZip-long IsWithinBounds (reduced I).arcs x bounds;
  rows = rows_of_instance I lawful;
  within = bounds_at (reduced I).arcs x bounds;
}
