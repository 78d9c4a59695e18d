-- Changes of a flow that turn in no circle: pushes along paths lead to what they make of it
-- (Ahuja, Magnanti, Orlin, "Network Flows": flow decomposition; topological ordering).
use Rattle.std.specs.Prelude.{◌≡◌, ◌≢◌, ◌⊎◌, ℕ, ◌<◌, ℤ, pos, ◌-ℤ◌, ◌<ℤ◌, ◌≤ℤ◌, List, length, slice_index_or}
use Rattle.std.specs.List.{All, AllPairs}
use Rattle.dimacs_text.specs.declared.problem.ArcRow.{ArcRow}
use Rattle.network.specs.Flow.{net}
use Rattle.residual_graph.specs.declared.residual.ResidualArc.{ResidualArc}
use Rattle.residual_graph.specs.declared.residual.Way.{Way}
use Rattle.residual_graph.specs.declared.residual.Way.TheVariants.{Forward, Backward}
use Rattle.residual_graph.specs.Residual.{IsPseudoflow, number_at, row_at}
use Rattle.flow_changes.specs.Push.{AreSmall, IsPath, nodes_on}

-- the rank of a node
abbrev pub rank_of : List ℕ → ℕ → ℕ
rank_of ranks v = slice_index_or ranks v 0

-- where arc k is to carry more, its head has a higher rank than its tail; where it is to carry less, its tail has
pub record RisesAt (rows : List ArcRow) (x y : List ℤ) (ranks : List ℕ) (k : ℕ) : Type 0 where
  pub more : number_at x k <ℤ number_at y k → rank_of ranks (row_at rows k).tail < rank_of ranks (row_at rows k).head
  pub less : number_at y k <ℤ number_at x k → rank_of ranks (row_at rows k).head < rank_of ranks (row_at rows k).tail

-- each change from flow x to flow y leads to a node of higher rank: so none turn in a circle
abbrev pub Rises : List ArcRow → List ℤ → List ℤ → List ℕ → Type 0
Rises rows x y ranks = (k : ℕ) → k < length rows → RisesAt rows x y ranks k

-- what lies in excess, or lacks, comes nearer to 0 or stays
abbrev pub IsNearer : ℤ → ℤ → Type 0
IsNearer e f = ((pos 0 ≤ℤ f) × (f ≤ℤ e)) ⊎ ((e ≤ℤ f) × (f ≤ℤ pos 0))

abbrev pub AreNearer : List ℤ → List ℤ → Type 0
AreNearer e f = (v : ℕ) → IsNearer (number_at e v) (number_at f v)

-- where flow x leaves the excess e, flow y leaves the excess f
abbrev pub IsExcessAfter : List ArcRow → List ℤ → List ℤ → List ℤ → List ℤ → Type 0
IsExcessAfter rows x e y f = (v : ℕ) → number_at f v ≡ number_at e v -ℤ (net rows y v -ℤ net rows x v)

-- flow x with excess e is changed to flow y with excess f; no changes turn in a circle, and each node comes nearer to balance
pub record IsAcyclicChange (nodes : ℕ) (rows : List ArcRow) (x e y f : List ℤ) (ranks : List ℕ) : Type 0 where
  pub before : IsPseudoflow nodes rows x
  pub after : IsPseudoflow nodes rows y
  pub excess_sized : length e ≡ nodes
  pub after_sized : length f ≡ nodes
  pub small : AreSmall e
  pub excess : IsExcessAfter rows x e y f
  pub nearer : AreNearer e f
  pub rises : Rises rows x y ranks

-- how much more is wanted along a residual arc, where its arc carries x and is to carry y
abbrev pub wanted_of : ℤ → ℤ → Way → ℤ
wanted_of x y Forward = y -ℤ x
wanted_of x y Backward = x -ℤ y

abbrev pub wanted_along : List ℤ → List ℤ → ResidualArc → ℤ
wanted_along x y h = wanted_of (number_at x h.arc) (number_at y h.arc) h.way

-- a path of arcs along each of which something is wanted, from a node that has something to give to one that has something to take
pub record IsWantedPath (nodes : ℕ) (rows : List ArcRow) (x e y f : List ℤ) : Type 0 where
  pub hops : List ResidualArc
  pub source : ℕ
  pub target : ℕ
  pub source_in : source < nodes
  pub target_in : target < nodes
  pub leads : IsPath rows hops source target
  pub simple : AllPairs ◌≢◌ (nodes_on rows hops source)
  pub arcs : All (λ h. h.arc < length rows) hops
  pub wanted : All (λ h. pos 1 ≤ℤ wanted_along x y h) hops
  pub gives : (pos 0 ≤ℤ number_at f source) × (number_at f source <ℤ number_at e source)
  pub takes : (number_at e target <ℤ number_at f target) × (number_at f target ≤ℤ pos 0)
