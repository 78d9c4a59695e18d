-- Which numbers are those of nodes.
use Rattle.std.proofs.Common.{ℕ, zero, suc, ◌⊎◌, ◌<◌, ◌≤◌, List, length, inl, inr, arith}
use Rattle.std.specs.List.{AllByRecursion}
use Rattle.std.proofs.lemmas.Bool.{cases_lt}
use Rattle.std.proofs.lemmas.List.Elements.{All-from_recursion}
use Rattle.dimacs_text.specs.declared.problem.ArcRow.{ArcRow}
use Rattle.residual_graph.specs.declared.residual.Way.{Way}
use Rattle.residual_graph.specs.declared.residual.Way.TheVariants.{Forward, Backward}
use Rattle.residual_graph.specs.Residual.{end_at, start_at}

abbrev pub IsNodeOf : ℕ → ℕ → Type 0
IsNodeOf n v = (1 ≤ v) × (v ≤ n)

abbrev pub AllEndsIn : ℕ → List ArcRow → Type 0
AllEndsIn n arcs = AllByRecursion (λ arc. ((1 ≤ arc.tail) × (arc.tail ≤ n)) × ((1 ≤ arc.head) × (arc.head ≤ n))) arcs

pub is_node_or_not : (n v : ℕ) → IsNodeOf n v ⊎ (IsNodeOf n v → ⊥)
is_node_or_not n zero = inr (λ h. omega (arith, h.0))
is_node_or_not n (suc v) = elim (cases_lt v n) [
  | inl lt ↦ inl (omega arith, omega arith)
  | inr past ↦ inr (λ h. omega (arith, h.1))
]

-- both ends of a residual arc are nodes where those of each arc are
pub ends_in : (n : ℕ) (arcs : List ArcRow) → AllEndsIn n arcs → (k : ℕ) (way : Way) → k < length arcs → IsNodeOf n (start_at arcs k way) × IsNodeOf n (end_at arcs k way)
ends_in n arcs ends k Forward lt = All-from_recursion (λ arc. IsNodeOf n arc.tail × IsNodeOf n arc.head) arcs ends k _ lt
ends_in n arcs ends k Backward lt = (let at = All-from_recursion (λ arc. IsNodeOf n arc.tail × IsNodeOf n arc.head) arcs ends k _ lt in (at.1, at.0))
