-- The two ends of each arc, and the list of the ends at each node. With arcs counted from 0, end 2k is the tail of arc k and end 2k + 1 its head.
use Rattle.std.specs.Prelude.{[], ◌∷◌, ◌++◌, set, ◌≡◌, ℕ, zero, suc, ◌*◌, ◌/◌, ◌%◌, ◌<◌, ◌≤◌, ◌-◌, ◌==◌, if◌then◌else◌, ℤ, pos, neg_ℤ, List, length, count_by, All, slice_get, slice_index_or, Option, Some, None}
use Rattle.dimacs_text.specs.declared.problem.ArcRow.{ArcRow}

-- the node of an arc's end; 0, which is no node, where there is no arc
abbrev pub node_of : Option ArcRow → ℕ → ℕ
node_of None side = 0
node_of (Some arc) zero = arc.tail
node_of (Some arc) (suc side) = arc.head

abbrev pub end_node : List ArcRow → ℕ → ℕ
end_node arcs end = node_of (slice_get arcs (end / 2)) (end % 2)

-- the greatest end below n at a node
abbrev pub last_end_below : List ArcRow → ℕ → ℕ → Option ℕ
last_end_below arcs v zero = None
last_end_below arcs v (suc end) = if end_node arcs end == v then Some end else last_end_below arcs v end

-- the end of an arc at a node
abbrev pub IsEnd : List ArcRow → ℕ → ℕ → Type 0
IsEnd arcs v end = (end < 2 * length arcs) × (end_node arcs end ≡ v)

-- from an end on, or from none, these ends come one after the other, and then none
abbrev pub Walks : (ℕ → Option ℕ) → Option ℕ → List ℕ → Type 0
Walks next from [] = from ≡ None
Walks next from (end ∷ ends) = (from ≡ Some end) × Walks next (next end) ends

-- the walk over the ends at a node, from the greatest to the next one: it comes to each once, and to no other
pub record WalksEnds (arcs : List ArcRow) (v : ℕ) (ends : List ℕ) : Type 0 where
  pub walk : Walks (λ end. last_end_below arcs (end_node arcs end) end) (last_end_below arcs v (2 * length arcs)) ends
  pub once : (end : ℕ) → IsEnd arcs v end → count_by (λ e. e == end) ends ≡ 1
  pub only : All (IsEnd arcs v) ends

-- what an end adds to its node's net
abbrev pub end_flow : List ℤ → ℕ → ℤ
end_flow flow end = if (end % 2) == 0 then slice_index_or flow (end / 2) (pos 0) else neg_ℤ (slice_index_or flow (end / 2) (pos 0))

-- each node has its greatest end, and each end the greatest end below it at its node: so the ends at a node are listed in falling order
pub record AreEndLists (nodes : ℕ) (arcs : List ArcRow) (first next : List (Option ℕ)) : Type 0 where
  pub first_len : length first ≡ nodes
  pub next_len : length next ≡ 2 * length arcs
  pub first_is : (v : ℕ) → 1 ≤ v → v ≤ nodes → slice_index_or first (v - 1) None ≡ last_end_below arcs v (2 * length arcs)
  pub next_is : (end : ℕ) → end < 2 * length arcs → slice_index_or next end None ≡ last_end_below arcs (end_node arcs end) end

-- an end becomes its node's greatest one, and names the greatest one before it
pub record AddsEnd (first next : List (Option ℕ)) (node end : ℕ) (first' next' : List (Option ℕ)) : Type 0 where
  pub heads : first' ≡ set first (node - 1) (Some end)
  pub tails : next' ≡ next ++ slice_index_or first (node - 1) None ∷ []

-- the greatest end of all gives way to the one before it at its node
pub record RemovesEnd (first next : List (Option ℕ)) (node : ℕ) (first' next' : List (Option ℕ)) : Type 0 where
  pub before : Option ℕ
  pub tails : next ≡ next' ++ before ∷ []
  pub heads : first' ≡ set first (node - 1) before
