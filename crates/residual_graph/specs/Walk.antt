-- The walk over the ends of arcs at a node (Ahuja, Magnanti, Orlin, "Network Flows": arc adjacency list).
use Rattle.std.specs.Prelude.{◌≡◌, ℕ, ◌+◌, ◌-◌, ◌*◌, ◌/◌, ◌%◌, ◌<◌, ◌≤◌, ◌==◌, if◌then◌else◌, IfSome, length, Option, None, Some}
use Rattle.network.specs.Ends.{end_node}
use Rattle.residual_graph.specs.declared.residual.Way.{Way}
use Rattle.residual_graph.specs.declared.residual.Way.TheVariants.{Forward, Backward}
use Rattle.residual_graph.specs.Graph.{GraphView}
pub use Rattle.residual_graph.specs.Graph.{AreRowsOf}
use Rattle.residual_graph.specs.Residual.{start_at}

-- the way in which the residual arc from an end goes along its arc
abbrev pub end_way : ℕ → Way
end_way end = if (end % 2) == 0 then Forward else Backward

-- ---- the walk goes from the greatest end down

-- the number of the end at which the residual arc in this way along arc k leaves
abbrev pub end_number : ℕ → Way → ℕ
end_number k Forward = 2 * k
end_number k Backward = 2 * k + 1

-- how many ends the return arc has, where there is one: they stand before those of the network's arcs
abbrev pub ends_before : GraphView → ℕ
ends_before g = 2 * (length g.rows - length g.net.arcs)

-- the walk has passed this end
abbrev pub IsPassed : Option ℕ → ℕ → Type 0
IsPassed None end = Unit {0}
IsPassed (Some current) end = current < end

-- the end is one of the return arc's, or one at node v
abbrev pub StandsAt : GraphView → ℕ → ℕ → Type 0
StandsAt g v end = ends_before g ≤ end → end_node g.net.arcs (end - ends_before g) ≡ v

-- from below n the walk over the ends at node v goes on to `next`, and leaves none out
pub record IsNextEnd (g : GraphView) (v n : ℕ) (next : Option ℕ) : Type 0 where
  pub stands : IfSome next (λ end. (end < n) × StandsAt g v end)
  pub all : (k : ℕ) (way : Way) → k < length g.rows → start_at g.rows k way ≡ v → end_number k way < n → IsPassed next (end_number k way) → ⊥

-- the walk over the ends at node v has come to `current`, or is over, and each arc that it passed has this property
pub record HasCome (g : GraphView) (v : ℕ) (current : Option ℕ) (P : ℕ → Type 0) : Type 0 where
  pub stands : IfSome current (λ end. (end < 2 * length g.rows) × StandsAt g v end)
  pub passed : (k : ℕ) (way : Way) → k < length g.rows → start_at g.rows k way ≡ v → IsPassed current (end_number k way) → P k

-- what is left of a walk over a list
abbrev pub ends_left : Option ℕ → ℕ
ends_left None = 0
ends_left (Some current) = current + 1
