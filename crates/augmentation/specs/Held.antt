-- Labels that were tested under a flow, and where that may no longer hold.
use Rattle.std.specs.Prelude.{◌≡◌, ℕ, ◌<◌, ◌⊎◌, ℤ, pos, neg_ℤ, ◌≤ℤ◌, List, Bool, true, false, length}
use Rattle.dimacs_text.specs.declared.problem.ArcRow.{ArcRow}
use Rattle.residual_graph.specs.declared.residual.Way.{Way}
use Rattle.residual_graph.specs.Residual.{IsPseudoflow, end_at, number_at, row_at, start_at}
use Rattle.predecessors.specs.declared.predecessor.Predecessor.{Predecessor}
use Rattle.predecessors.specs.Limits.{label_floor}
use Rattle.predecessors.specs.Predecessor.{IsTracedAt, arc_to, predecessor_at}
use Rattle.shortest_paths.specs.Tree.{IsRelabelled, TreeView}
use Rattle.augmentation.specs.declared.held.Labelled.{Labelled}
use Rattle.augmentation.specs.Certificate.{AreCertifying, AreInRange, KeepsRow}
use Rattle.tracked.specs.Marks.{in_set}

-- the labels q certify the flow x, and each is 0 or comes along the residual arc that the predecessors t tell
pub record AreTested (rows : List ArcRow) (x q : List ℤ) (t : List Predecessor) : Type 0 where
  pub certifying : AreCertifying rows x q
  pub traced : (v : ℕ) → v < length q → IsTracedAt rows x q t v

-- so are the labels of a tree
abbrev pub AreTestedIn : List ArcRow → List ℤ → TreeView → Type 0
AreTestedIn rows x t = AreTested rows x t.labels t.predecessors

-- they do but at noted arcs, and are so but at nodes beside them
pub record AreHeld (rows : List ArcRow) (x q : List ℤ) (t : List Predecessor) (noted beside : List Bool) : Type 0 where
  pub in_range : AreInRange q
  pub arcs : (k : ℕ) → k < length rows → in_set noted k ≡ false → KeepsRow (row_at rows k) (number_at x k) q
  pub nodes : (v : ℕ) → v < length q → in_set beside v ≡ false → IsTracedAt rows x q t v

-- each label is within the range of labels
abbrev pub IsInLabelRange : ℤ → Type 0
IsInLabelRange label = (neg_ℤ (pos label_floor) ≤ℤ label) × (label ≤ℤ pos 0)

abbrev pub IsInRangeAt : List ℤ → ℕ → Type 0
IsInRangeAt q v = IsInLabelRange (number_at q v)

-- labels are held under a flow, unless they are lost
abbrev pub IsHeldIn : List ArcRow → List ℤ → TreeView → Type 0
IsHeldIn rows x t = t.is_lost ≡ false → AreHeld rows x t.labels t.predecessors t.noted t.beside

-- they were, before labels of the tree were written
pub record IsHeldSince (rows : List ArcRow) (x : List ℤ) (t : TreeView) : Type 0 where
  pub before : TreeView
  pub held : IsHeldIn rows x before
  pub moved : IsRelabelled before t
  pub sized : length t.labels ≡ length before.labels

-- arc k is certified, and a node that hangs on it is traced
pub record HoldsAlong (rows : List ArcRow) (x q : List ℤ) (t : List Predecessor) (k : ℕ) : Type 0 where
  pub keeps : KeepsRow (row_at rows k) (number_at x k) q
  pub hanging : (way : Way) → arc_to t (end_at rows k way) ≡ k → IsTracedAt rows x q t (end_at rows k way)

-- so it is of each arc at node v, which is traced
pub record HoldsAt (rows : List ArcRow) (x q : List ℤ) (t : List Predecessor) (v : ℕ) : Type 0 where
  pub along : (k : ℕ) (way : Way) → k < length rows → start_at rows k way ≡ v → HoldsAlong rows x q t k
  pub traced : IsTracedAt rows x q t v

-- a flow of the graph, and for each node a label in range and a predecessor
pub record IsLabelling (on : Labelled) : Type 0 where
  pub flow : IsPseudoflow (length on.labels.now) on.graph.now.rows on.flow.now
  pub labels : AreInRange on.labels.now
  pub same_length : length on.predecessors.now ≡ length on.labels.now

-- so it is of an arc and of a node under labels with predecessors
abbrev pub HoldsAlongOn : Labelled → ℕ → Type 0
HoldsAlongOn on k = HoldsAlong on.graph.now.rows on.flow.now on.labels.now on.predecessors.now k

abbrev pub HoldsAtOn : Labelled → ℕ → Type 0
HoldsAtOn on v = HoldsAt on.graph.now.rows on.flow.now on.labels.now on.predecessors.now v

abbrev pub IsTracedOn : Labelled → ℕ → Type 0
IsTracedOn on v = IsTracedAt on.graph.now.rows on.flow.now on.labels.now on.predecessors.now v

-- the node to which the residual arc in this way along arc k leads is traced, if it hangs on that arc
abbrev pub HangsWellOn : Labelled → ℕ → Way → Type 0
HangsWellOn on k way = arc_to on.predecessors.now (end_at on.graph.now.rows k way) ≡ k → IsTracedOn on (end_at on.graph.now.rows k way)

-- each marked place below n has this property
abbrev pub AllMarked : List Bool → ℕ → (ℕ → Type 0) → Type 0
AllMarked marks n P = (k : ℕ) → k < n → in_set marks k ≡ true → P k

-- so it is of the marked arcs, or nodes, under labels with predecessors
abbrev pub HoldAlongAllOn : Labelled → List Bool → Type 0
HoldAlongAllOn on arcs = AllMarked arcs (length on.graph.now.rows) (HoldsAlongOn on)

abbrev pub HoldAtAllOn : Labelled → List Bool → Type 0
HoldAtAllOn on nodes = AllMarked nodes (length on.labels.now) (HoldsAtOn on)

abbrev pub AreTracedAllOn : Labelled → List Bool → Type 0
AreTracedAllOn on nodes = AllMarked nodes (length on.labels.now) (IsTracedOn on)

-- the flow w became x, the labels p became q and the predecessors s became t, all at marked places alone
pub record AreMarkedChanges (rows : List ArcRow) (w x p q : List ℤ) (s t : List Predecessor) (written touched : List Bool) : Type 0 where
  pub sized : length q ≡ length p
  pub flow : (k : ℕ) → in_set written k ≡ false → number_at x k ≡ number_at w k
  pub labels : (v : ℕ) → in_set touched v ≡ false → number_at q v ≡ number_at p v
  pub predecessors : (v : ℕ) → in_set touched v ≡ false → predecessor_at t v ≡ predecessor_at s v

-- all was tested along noted and written arcs, at nodes beside the noted ones, and at touched ones
pub record AreTestedThere (rows : List ArcRow) (x q : List ℤ) (t : List Predecessor) (noted beside written touched : List Bool) : Type 0 where
  pub noted_hold : (k : ℕ) → k < length rows → in_set noted k ≡ true → HoldsAlong rows x q t k
  pub beside_traced : (v : ℕ) → v < length q → in_set beside v ≡ true → IsTracedAt rows x q t v
  pub written_hold : (k : ℕ) → k < length rows → in_set written k ≡ true → HoldsAlong rows x q t k
  pub touched_hold : (v : ℕ) → v < length q → in_set touched v ≡ true → HoldsAt rows x q t v

-- an arc has the same row and the same flow
pub record IsSameArc (rows : List ArcRow) (w : List ℤ) (rows' : List ArcRow) (w' : List ℤ) (k : ℕ) : Type 0 where
  pub in_both : (k < length rows) × (k < length rows')
  pub row : row_at rows' k ≡ row_at rows k
  pub flow : number_at w' k ≡ number_at w k

-- rows and flow changed at noted arcs alone; what was noted, and beside such an arc, is so still
pub record AreNotedChanges (rows : List ArcRow) (w : List ℤ) (noted beside : List Bool) (rows' : List ArcRow) (w' : List ℤ) (noted' beside' : List Bool) : Type 0 where
  pub still_noted : (k : ℕ) → in_set noted k ≡ true → in_set noted' k ≡ true
  pub still_beside : (v : ℕ) → in_set beside v ≡ true → in_set beside' v ≡ true
  pub arcs : (k : ℕ) → k < length rows' → (in_set noted' k ≡ true) ⊎ IsSameArc rows w rows' w' k
  pub ends : (k : ℕ) → k < length rows → ((way : Way) → in_set beside' (end_at rows k way) ≡ true) ⊎ IsSameArc rows w rows' w' k
