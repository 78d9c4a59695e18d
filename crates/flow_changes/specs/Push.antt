-- Flow that is pushed along a path of arcs, from a node in excess to a node in deficit
-- (Ahuja, Magnanti, Orlin, "Network Flows": augmenting paths; excess, deficit and pseudoflow).
use Rattle.network.specs.Flow.{net}
use Rattle.flow_changes.specs.Limits.{excess_limit}
use Rattle.std.specs.Prelude.{◌≡◌, ◌≢◌, ℕ, zero, suc, ◌+◌, ◌≤◌, ℤ, pos, negsuc, neg_ℤ, ◌-ℤ◌, ◌+ℤ◌, ◌≤ℤ◌, List, [], ◌∷◌, length, slice_set, if◌then◌else◌, ◌==◌, Bool, true, false}
use Rattle.std.specs.List.{All, AllPairs, sum_by}
use Rattle.dimacs_text.specs.declared.problem.ArcRow.{ArcRow}
use Rattle.residual_graph.specs.declared.residual.ResidualArc.{ResidualArc}
use Rattle.residual_graph.specs.declared.residual.Way.{Way}
use Rattle.residual_graph.specs.declared.residual.Way.TheVariants.{Forward, Backward}
use Rattle.residual_graph.specs.Residual.{number_at, row_at, start_at, end_at, cost_at, room_of}
use Rattle.residual_graph.specs.Graph.{GraphView}
use Rattle.tracked.specs.Tracked.{TrackedView}

-- e is what each node's supply exceeds the flow out of it by
abbrev pub IsExcess : List ArcRow → (ℕ → ℤ) → List ℤ → List ℤ → Type 0
IsExcess arcs supply x e = (v : ℕ) → number_at e v ≡ supply v -ℤ net arcs x v

-- the hops, the first one first, lead from node u to node w
abbrev pub IsPath : List ArcRow → List ResidualArc → ℕ → ℕ → Type 0
IsPath arcs [] u w = u ≡ w
IsPath arcs (h ∷ hops) u w = (start_at arcs h.arc h.way ≡ u) × IsPath arcs hops (end_at arcs h.arc h.way) w

-- the nodes of a path from u
abbrev pub nodes_on : List ArcRow → List ResidualArc → ℕ → List ℕ
nodes_on arcs [] u = u ∷ []
nodes_on arcs (h ∷ hops) u = u ∷ nodes_on arcs hops (end_at arcs h.arc h.way)

-- a flow with m more in a direction
abbrev pub moved : Way → ℤ → ℤ → ℤ
moved Forward x m = x +ℤ m
moved Backward x m = x -ℤ m

-- y is x with m more on each hop, in its direction
pub record IsShift (hops : List ResidualArc) (m : ℤ) (x y : List ℤ) : Type 0 where
  pub same_length : length y ≡ length x
  pub on_path : All (λ h. number_at y h.arc ≡ moved h.way (number_at x h.arc) m) hops
  pub elsewhere : (k : ℕ) → All (λ h. h.arc ≢ k) hops → number_at y k ≡ number_at x k

-- y is one push from x: m units or more lie in excess at the source and lack at the target, and m units are moved along a path between the two that meets no node twice
pub record IsPush (arcs : List ArcRow) (supply : ℕ → ℤ) (x y : List ℤ) : Type 0 where
  pub amount : ℤ
  pub hops : List ResidualArc
  pub source : ℕ
  pub target : ℕ
  pub at_least_1 : pos 1 ≤ℤ amount
  pub path : IsPath arcs hops source target
  pub simple : AllPairs ◌≢◌ (nodes_on arcs hops source)
  pub shift : IsShift hops amount x y
  pub in_excess : amount ≤ℤ (supply source -ℤ net arcs x source)
  pub in_deficit : (supply target -ℤ net arcs x target) ≤ℤ neg_ℤ amount

-- y is reached from x by n pushes
abbrev pub Pushes : List ArcRow → (ℕ → ℤ) → ℕ → List ℤ → List ℤ → Type 0
Pushes arcs supply zero x y = x ≡ y
Pushes arcs supply (suc n) x y = (z : List ℤ) × Pushes arcs supply n x z × IsPush arcs supply z y

-- the part of a number above 0
abbrev pub part_above_0 : ℤ → ℕ
part_above_0 (pos n) = n
part_above_0 (negsuc n) = 0

-- the sum of what lies in excess
abbrev pub left : List ℤ → ℕ
left excess = sum_by part_above_0 excess

-- the sum of what lies in deficit
abbrev pub lack : List ℤ → ℕ
lack e = sum_by (λ z. part_above_0 (neg_ℤ z)) e

-- m more fits on each hop
abbrev pub HasRoom : List ArcRow → List ℤ → ℤ → List ResidualArc → Type 0
HasRoom arcs x m [] = Unit {0}
HasRoom arcs x m (h ∷ hops) = (m ≤ℤ room_of (row_at arcs h.arc) (number_at x h.arc) h.way) × HasRoom arcs x m hops

-- the flow after m more on each hop, one after the other
abbrev pub push_along : List ResidualArc → ℤ → List ℤ → List ℤ
push_along [] m x = x
push_along (h ∷ hops) m x = push_along hops m (slice_set x h.arc (moved h.way (number_at x h.arc) m))

-- the residual arc along arc k costs nothing under the potentials q
abbrev pub IsTightArc : List ArcRow → List ℤ → ℕ → Way → Type 0
IsTightArc arcs q k way = number_at q (end_at arcs k way) ≡ cost_at arcs k way +ℤ number_at q (start_at arcs k way)

-- no hop of the path costs anything under the potentials q
abbrev pub IsTight : List ArcRow → List ℤ → List ResidualArc → Type 0
IsTight arcs q [] = Unit {0}
IsTight arcs q (h ∷ hops) =
    IsTightArc arcs q h.arc h.way × IsTight arcs q hops

-- m at node u, and nothing at another node
abbrev pub only_at : ℕ → ℤ → ℕ → ℤ
only_at u m v = if u == v then m else pos 0

-- no excess and no deficit is above the limit
pub record AreSmall (e : List ℤ) : Type 0 where
  pub low : (v : ℕ) → neg_ℤ (pos excess_limit) ≤ℤ number_at e v
  pub high : (v : ℕ) → number_at e v ≤ℤ pos excess_limit

-- f is e with m moved from the excess of u to the deficit of w
pub record IsTransfer (u w : ℕ) (m : ℤ) (e f : List ℤ) : Type 0 where
  pub same_length : length f ≡ length e
  pub by_node : (v : ℕ) → number_at f v ≡ (number_at e v -ℤ only_at u m v) +ℤ only_at w m v

-- one push, or none
abbrev pub one_if : Bool → ℕ
one_if true = 1
one_if false = 0

-- n pushes lead from a flow x with excesses e to a flow y with excesses f
pub record ArePushes (arcs : List ArcRow) (n : ℕ) (x e y f : List ℤ) : Type 0 where
  pub excess : (supply : ℕ → ℤ) → IsExcess arcs supply x e → IsExcess arcs supply y f
  pub pushes : (supply : ℕ → ℤ) → IsExcess arcs supply x e → Pushes arcs supply n x y
  pub count : n + left f ≤ left e
  pub lacking : n + lack f ≤ lack e
  pub none : n ≡ 0 → (x ≡ y) × (e ≡ f)
  pub balanced : (v : ℕ) → number_at e v ≡ pos 0 → number_at f v ≡ pos 0

-- so it is of tables of flows
abbrev pub ArePushesOf : GraphView → ℕ → TrackedView ℤ → List ℤ → TrackedView ℤ → List ℤ → Type 0
ArePushesOf g n x e y f = ArePushes g.rows n x.entries e y.entries f

-- the sum of all capacities
abbrev pub cap_total : List ArcRow → ℕ
cap_total arcs = sum_by (λ a. part_above_0 a.cap) arcs
