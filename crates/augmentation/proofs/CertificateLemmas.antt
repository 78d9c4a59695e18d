-- Potentials that certify a flow, arc by arc.
use Rattle.std.proofs.Common.{ℕ, ◌<◌, ℤ, List, length, arith}
use Rattle.std.proofs.lemmas.Int.{ints}
use Rattle.dimacs_text.specs.declared.problem.ArcRow.{ArcRow}
use Rattle.residual_graph.specs.declared.residual.Way.{Way}
use Rattle.residual_graph.specs.declared.residual.Way.TheVariants.{Forward, Backward}
use Rattle.residual_graph.specs.Limits.{potential_floor}
use Rattle.predecessors.specs.Limits.{label_floor}
use Rattle.residual_graph.specs.Residual.{ArePotentials, NoneBelow, number_at, row_at}
use Rattle.augmentation.specs.Certificate.{IsNoneBelowAt, KeepsRow}

pub rows_of : (arcs : List ArcRow) (x p : List ℤ) → NoneBelow arcs x p → (k : ℕ) → k < length arcs → KeepsRow (row_at arcs k) (number_at x k) p
rows_of arcs x p none k lt = (
  λ room. none k Forward (record { is_arc = lt; has_room = room }),
  λ room. none k Backward (record { is_arc = lt; has_room = room }),
)

keeps_way : (a : ArcRow) (x : ℤ) (p : List ℤ) (way : Way) → KeepsRow a x p → IsNoneBelowAt a x p way
keeps_way a x p Forward keeps = keeps.0
keeps_way a x p Backward keeps = keeps.1

pub none_of : (arcs : List ArcRow) (x p : List ℤ) → ((k : ℕ) → k < length arcs → KeepsRow (row_at arcs k) (number_at x k) p) → NoneBelow arcs x p
none_of arcs x p keeps k way residual = keeps_way (row_at arcs k) (number_at x k) p way (keeps k residual.is_arc) residual.has_room

-- potentials down to where labels go are down to where potentials go
pub within_potentials : (nodes : ℕ) (p : List ℤ) → ArePotentials nodes label_floor p → ArePotentials nodes potential_floor p
within_potentials nodes p within = record { sized = within.sized; at_most_0 = within.at_most_0; at_least = λ v. omega (arith, ints, within.at_least v) }
