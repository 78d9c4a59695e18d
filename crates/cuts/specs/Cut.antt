-- Sets of nodes whose supply cannot leave, or whose demand cannot be met
-- (Ahuja, Magnanti, Orlin, "Network Flows": feasibility of flows, cuts).
use Rattle.std.specs.Prelude.{◌≡◌, ℕ, ◌<◌, ℤ, pos, ◌≤ℤ◌, neg_ℤ, List, length, Bool, true, if◌then◌else◌, ◌↔◌, Any, IsTrue, false}
use Rattle.dimacs_text.specs.declared.problem.ArcRow.{ArcRow}
use Rattle.residual_graph.specs.declared.residual.ResidualArc.{ResidualArc}
use Rattle.residual_graph.specs.declared.residual.Way.{Way}
use Rattle.residual_graph.specs.declared.residual.Way.TheVariants.{Backward, Forward}
use Rattle.residual_graph.specs.declared.side.Side.{Side}
use Rattle.residual_graph.specs.declared.side.Side.TheVariants.{Ahead, Behind}
use Rattle.flow_changes.specs.Push.{ArePushes, left, part_above_0}
pub use Rattle.flow_changes.specs.Push.{lack}
use Rattle.residual_graph.specs.Residual.{number_at, row_at, start_of, end_of, IsPseudoflow, IsResidual}
use Rattle.residual_graph.specs.Side.{IsRoot}
use Rattle.tracked.specs.Marks.{in_set}

-- what a node with this excess has as a root of a side: its excess ahead, its deficit behind
abbrev pub amount_of : Side → ℤ → ℕ
amount_of Ahead z = part_above_0 z
amount_of Behind z = part_above_0 (neg_ℤ z)

-- what lies at the roots of a side
abbrev pub amount : Side → List ℤ → ℕ
amount Ahead e = left e
amount Behind e = lack e

-- the end of a residual arc that is nearer to the roots: it leads on ahead from its start, and on behind from its end
abbrev pub near_of : Side → ArcRow → Way → ℕ
near_of Ahead a way = start_of a way
near_of Behind a way = end_of a way

-- the other end
abbrev pub far_of : Side → ArcRow → Way → ℕ
far_of Ahead a way = end_of a way
far_of Behind a way = start_of a way

-- the way in which a residual arc goes along its arc that leads on from the tail, or from the head
abbrev pub way_from : Side → Bool → Way
way_from Ahead from_tail = if from_tail then Forward else Backward
way_from Behind from_tail = if from_tail then Backward else Forward

abbrev pub near_at : Side → List ArcRow → ℕ → Way → ℕ
near_at side arcs k way = near_of side (row_at arcs k) way

abbrev pub far_at : Side → List ArcRow → ℕ → Way → ℕ
far_at side arcs k way = far_of side (row_at arcs k) way

-- no residual arc leads on out of the set: ahead none leaves it, and behind none enters it
abbrev pub IsClosed : Side → List ArcRow → List ℤ → List Bool → Type 0
IsClosed side arcs x set = (k : ℕ) (way : Way) → IsResidual arcs x k way → in_set set (near_at side arcs k way) ≡ true → in_set set (far_at side arcs k way) ≡ true

-- the set holds each root of the side
abbrev pub HoldsRoots : Side → List ℤ → List Bool → Type 0
HoldsRoots side e set = (v : ℕ) → IsRoot side (number_at e v) → in_set set v ≡ true

-- the set is that of the roots
abbrev pub AreRoots : Side → List ℤ → List Bool → Type 0
AreRoots side e set = (v : ℕ) → IsTrue (in_set set v) ↔ IsRoot side (number_at e v)

-- no node of the set is in deficit
abbrev pub HasNoDeficit : List ℤ → List Bool → Type 0
HasNoDeficit e set = (v : ℕ) → in_set set v ≡ true → pos 0 ≤ℤ number_at e v

-- the nodes that those in excess reach, or those that reach a node in deficit
pub record AreOnSide (side : Side) (arcs : List ArcRow) (x e : List ℤ) (set : List Bool) : Type 0 where
  pub closed : IsClosed side arcs x set
  pub holds : HoldsRoots side e set
  pub least : (other : List Bool) → IsClosed side arcs x other → HoldsRoots side e other → (v : ℕ) → in_set set v ≡ true → in_set other v ≡ true

-- the nodes are in the set, where they have a mark
abbrev pub AreNodesIn : List ℕ → List Bool → Type 0
AreNodesIn nodes set = (v : ℕ) → Any (λ p. p ≡ v) nodes → v < length set → in_set set v ≡ true

-- the marks of the nodes are those of another table, and so are all that were
pub record AreTaken (nodes : List ℕ) (before after marks : List Bool) : Type 0 where
  pub taken : (v : ℕ) → Any (λ p. p ≡ v) nodes → in_set after v ≡ in_set marks v
  pub kept : (v : ℕ) → in_set before v ≡ in_set marks v → in_set after v ≡ in_set marks v

-- each marked node is listed: an unlisted one is not marked
pub record AreMarkedListed (listed marks : List Bool) : Type 0 where
  pub one_a_node : length listed ≡ length marks
  pub unmarked : (v : ℕ) → in_set listed v ≡ false → in_set marks v ≡ false

-- where something lies in excess, the nodes that it reaches; else those that reach a node in deficit
pub record IsSideOfCut (arcs : List ArcRow) (x e : List ℤ) (set : List Bool) : Type 0 where
  pub in_excess : 0 < left e → AreOnSide Ahead arcs x e set
  pub no_excess : left e ≡ 0 → AreOnSide Behind arcs x e set

-- no node in excess reaches a node in deficit: some set that no residual arc leaves holds all the former and none of the latter
pub record IsParted (arcs : List ArcRow) (x e : List ℤ) : Type 0 where
  pub set : List Bool
  pub closed : IsClosed Ahead arcs x set
  pub holds : HoldsRoots Ahead e set
  pub no_deficit : HasNoDeficit e set

-- the set is the side of the cut of flow x with excess e, in which no node in excess reaches one in deficit; what is left in excess,
-- or else what is lacking, comes to the shortage
pub record IsCutOf (arcs : List ArcRow) (x e : List ℤ) (shortage : ℕ) (set : List Bool) : Type 0 where
  pub side : IsSideOfCut arcs x e set
  pub parted : IsParted arcs x e
  pub some : 0 < shortage
  pub in_excess : 0 < left e → shortage ≡ left e
  pub no_excess : left e ≡ 0 → shortage ≡ lack e

-- pushes lead from flow x with excess e to a flow whose cut this is
pub record IsShownBy (arcs : List ArcRow) (x e : List ℤ) (shortage : ℕ) (set : List Bool) : Type 0 where
  pub flow : List ℤ
  pub excess : List ℤ
  pub count : ℕ
  pub sized : length excess ≡ length e
  pub within : IsPseudoflow (length e) arcs flow
  pub pushes : ArePushes arcs count x e flow excess
  pub cut : IsCutOf arcs flow excess shortage set

-- no residual arc along arc k leads on out of the set
abbrev pub IsClosedAlong : Side → List ArcRow → List ℤ → List Bool → ℕ → Type 0
IsClosedAlong side arcs x set k = (way : Way) → IsResidual arcs x k way → in_set set (near_at side arcs k way) ≡ true → in_set set (far_at side arcs k way) ≡ true

-- a residual arc leads on from a node of the set to node v, which is not in it
pub record LeadsOut (side : Side) (arcs : List ArcRow) (x : List ℤ) (set : List Bool) (v : ℕ) : Type 0 where
  pub arc : ResidualArc
  pub residual : IsResidual arcs x arc.arc arc.way
  pub near : in_set set (near_at side arcs arc.arc arc.way) ≡ true
  pub far : far_at side arcs arc.arc arc.way ≡ v
  pub node : v < length set
  pub outside : in_set set v ≡ false

-- the residual arc along arc k, where it is there, has its far node in the set
abbrev pub IsFarIn : Side → List ArcRow → List ℤ → List Bool → ℕ → Way → Type 0
IsFarIn side arcs x set k way = IsResidual arcs x k way → in_set set (far_at side arcs k way) ≡ true

-- so has each residual arc that leads on from node v
abbrev pub AreFarIn : Side → List ArcRow → List ℤ → List Bool → ℕ → Type 0
AreFarIn side arcs x set v = (k : ℕ) (way : Way) → near_at side arcs k way ≡ v → IsFarIn side arcs x set k way

-- the set became another: whatever holds the old one, and has no residual arc that leads on out of it, holds the new one too
pub record IsGrown (side : Side) (arcs : List ArcRow) (x : List ℤ) (old new : List Bool) : Type 0 where
  pub same_size : length new ≡ length old
  pub kept : (v : ℕ) → in_set old v ≡ true → in_set new v ≡ true
  pub least : (other : List Bool) → IsClosed side arcs x other → ((v : ℕ) → in_set old v ≡ true → in_set other v ≡ true) → (v : ℕ) → in_set new v ≡ true → in_set other v ≡ true
