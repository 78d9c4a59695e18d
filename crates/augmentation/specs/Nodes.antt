-- Tables of nodes: node v has entry v, and entry 0 stands for no node.
use Rattle.predecessors.specs.Limits.{label_floor}
use Rattle.std.specs.Prelude.{ℕ, zero, suc, ℤ, pos, neg_ℤ, ◌≤ℤ◌, List, [], ◌∷◌}
use Rattle.residual_graph.specs.Residual.{number_at}

-- the first n numbers of a sequence
abbrev pub table : {A : Type 0} → ℕ → (ℕ → A) → List A
table zero f = []
table (suc n) f = f 0 ∷ table n (λ v. f (suc v))

-- the number of a node, and 0 at what is none of the nodes 1 to n
abbrev pub held : ℕ → (ℕ → ℤ) → ℕ → ℤ
held n f = number_at (pos 0 ∷ table n (λ v. f (suc v)))

-- entry 0 of a table of potentials is in range, though no node has it
abbrev pub IsIdleEntry : List ℤ → Type 0
IsIdleEntry p = (neg_ℤ (pos label_floor) ≤ℤ number_at p 0) × (number_at p 0 ≤ℤ pos 0)
