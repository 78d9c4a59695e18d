-- The tree of labels (Ahuja, Magnanti, Orlin, "Network Flows": shortest path trees), and what is held of labels that were tested.
use Rattle.std.specs.Prelude.{◌≡◌, ◌≢◌, ℕ, ◌<◌, ℤ, Any, Bool, List, false, length, true}
use Rattle.dimacs_text.specs.declared.problem.ArcRow.{ArcRow}
use Rattle.residual_graph.specs.Residual.{row_at}
use Rattle.shortest_paths.specs.declared.residual_network.Residual.{Residual}
use Rattle.shortest_paths.specs.Search.{IsForest}
use Rattle.tracked.specs.Marks.{in_set}
use Rattle.tracked.specs.Touched.{AgreeAt}
use Rattle.predecessors.specs.declared.predecessor.Predecessor.{Predecessor}

-- what contracts see of a tree: the label and the predecessor of each node; the nodes where one of these was written since they were tested; the arcs that are noted since, with the nodes beside them; whether more changed than is noted; and whether any potential may be another than the label
pub record TreeView : Type 0 where
  pub labels : List ℤ
  pub predecessors : List Predecessor
  pub touched : List Bool
  pub noted : List Bool
  pub beside : List Bool
  pub is_lost : Bool
  pub are_apart : Bool

-- it has a label for each node of a residual network, whose table of ends has an entry for each, too
pub record IsTreeOf (net : Residual) (t : TreeView) : Type 0 where
  pub labels : length t.labels ≡ length net.potentials.now
  pub ends : net.ends.now ≡ length net.potentials.now

module _ {T : Type 0} where
  -- two tables agree wherever there is no mark
  abbrev pub AgreeUnmarked : List Bool → List T → List T → Type 0
  AgreeUnmarked marks xs ys = (v : ℕ) → in_set marks v ≡ false → AgreeAt xs ys v

  -- the table xs became ys at marked places alone, and no mark was taken off
  abbrev pub AreWritten : List Bool → List T → List Bool → List T → Type 0
  AreWritten marks xs marks' ys = (v : ℕ) → in_set marks' v ≡ false → (in_set marks v ≡ false) × AgreeAt xs ys v

-- labels and predecessors were written at marked nodes alone; what is known of earlier ones is the same
pub record IsRelabelled (t u : TreeView) : Type 0 where
  pub labels : AreWritten t.touched t.labels u.touched u.labels
  pub predecessors : AreWritten t.touched t.predecessors u.touched u.predecessors
  pub noted : u.noted ≡ t.noted
  pub beside : u.beside ≡ t.beside
  pub lost : u.is_lost ≡ t.is_lost
  pub apart : u.are_apart ≡ t.are_apart

-- nothing is held of the labels, and any potential may be another
pub record IsForgotten (t : TreeView) : Type 0 where
  pub lost : t.is_lost ≡ true
  pub apart : t.are_apart ≡ true

-- the predecessors are a forest of arcs that cost nothing under the labels
abbrev pub IsForestOf : List ArcRow → TreeView → Type 0
IsForestOf arcs t = IsForest arcs t.labels t.predecessors

-- potentials are the labels but at marked nodes, unless any may be another
abbrev pub AreInStep : TreeView → List ℤ → Type 0
AreInStep t p = t.are_apart ≡ false → AgreeUnmarked t.touched t.labels p

-- labels and predecessors are the same, and whatever was noted is so still
pub record StaysHeld (t u : TreeView) : Type 0 where
  pub labels : u.labels ≡ t.labels
  pub predecessors : u.predecessors ≡ t.predecessors
  pub touched : u.touched ≡ t.touched
  pub noted : (k : ℕ) → in_set t.noted k ≡ true → in_set u.noted k ≡ true
  pub beside : (v : ℕ) → in_set t.beside v ≡ true → in_set u.beside v ≡ true
  pub lost : u.is_lost ≡ false → t.is_lost ≡ false
  pub apart : u.are_apart ≡ false → t.are_apart ≡ false

-- marks stay, and this node has one
abbrev pub IsMarkedToo : ℕ → List Bool → List Bool → Type 0
IsMarkedToo v marks marks' = (u : ℕ) → in_set marks' u ≡ false → (in_set marks u ≡ false) × (u ≢ v)

-- arc k is noted, and the nodes at its ends are beside
pub record IsArcNoted (arcs : List ArcRow) (t : TreeView) (k : ℕ) : Type 0 where
  pub arc : in_set t.noted k ≡ true
  pub tail : in_set t.beside (row_at arcs k).tail ≡ true
  pub head : in_set t.beside (row_at arcs k).head ≡ true

-- so it is, unless more changed than is noted
abbrev pub IsNotedIn : List ArcRow → TreeView → ℕ → Type 0
IsNotedIn arcs t k = t.is_lost ≡ false → IsArcNoted arcs t k

-- so is each arc that the places name, unless more changed than is noted
abbrev pub AreArcsNoted : List ArcRow → List ℕ → TreeView → Type 0
AreArcsNoted arcs places t = t.is_lost ≡ false → (k : ℕ) → k < length arcs → Any (λ p. p ≡ k) places → IsArcNoted arcs t k
