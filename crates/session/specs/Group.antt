-- The edits of a group: the places that they name, and the parts that lead back before them.
use Rattle.std.specs.Prelude.{◌≡◌, ℕ, ◌+◌, ◌-◌, ◌<◌, ◌≤◌, ◌↔◌, pos, Bool, true, false, List, [], ◌∷◌, length, cond, nat_eq, nat_le, Some, All, AllPairs, Any, slice_index_or}
use Rattle.std.specs.List.{Contains, find}
use Rattle.std.proofs.Math.ListN.{replicate}
use Rattle.dimacs_text.specs.declared.command.Edit.{Edit}
use Rattle.dimacs_text.specs.declared.command.Edit.TheVariants as edits
use Rattle.network.specs.Instance.{Instance}
use Rattle.flow_solver.specs.TablesView.{supplies_in}
use Rattle.flow_solver.specs.declared.part.Part.{Part}
use Rattle.flow_solver.specs.declared.part.Part.TheVariants.{Arc, Supply, Last, Gone}
use Rattle.session.specs.Parts.{listed, no_row}

-- the nodes that the edits name, in their order
abbrev pub nodes_of : List Edit → List ℕ
nodes_of [] = []
nodes_of (edits.Cap arc cap ∷ es) = nodes_of es
nodes_of (edits.Low arc low ∷ es) = nodes_of es
nodes_of (edits.Cost arc cost ∷ es) = nodes_of es
nodes_of (edits.Supply node value ∷ es) = node ∷ nodes_of es
nodes_of (edits.Add tail head low cap cost ∷ es) = nodes_of es
nodes_of (edits.Close arc ∷ es) = nodes_of es

-- the arc before the others, where it is one of the first n
abbrev pub and_arc : ℕ → ℕ → List ℕ → List ℕ
and_arc n arc arcs = cond (nat_le arc n) (arc ∷ arcs) arcs

-- those of the first n arcs that they name
abbrev pub arcs_of : ℕ → List Edit → List ℕ
arcs_of n [] = []
arcs_of n (edits.Cap arc cap ∷ es) = and_arc n arc (arcs_of n es)
arcs_of n (edits.Low arc low ∷ es) = and_arc n arc (arcs_of n es)
arcs_of n (edits.Cost arc cost ∷ es) = and_arc n arc (arcs_of n es)
arcs_of n (edits.Supply node value ∷ es) = arcs_of n es
arcs_of n (edits.Add tail head low cap cost ∷ es) = arcs_of n es
arcs_of n (edits.Close arc ∷ es) = and_arc n arc (arcs_of n es)

-- how many arcs they add
abbrev pub arcs_added : List Edit → ℕ
arcs_added [] = 0
arcs_added (edits.Cap arc cap ∷ es) = arcs_added es
arcs_added (edits.Low arc low ∷ es) = arcs_added es
arcs_added (edits.Cost arc cost ∷ es) = arcs_added es
arcs_added (edits.Supply node value ∷ es) = arcs_added es
arcs_added (edits.Add tail head low cap cost ∷ es) = arcs_added es + 1
arcs_added (edits.Close arc ∷ es) = arcs_added es

-- the same numbers, each once and rising
pub record AreNames (names all : List ℕ) : Type 0 where
  pub rising : AllPairs ◌<◌ names
  pub same : (k : ℕ) → Contains names k ↔ Contains all k

-- the places with what the list has there
abbrev pub valued : {X : Type 0} → List ℕ → List X → X → List (ℕ × X)
valued [] xs d = []
valued (k ∷ ks) xs d = (k, slice_index_or xs (k - 1) d) ∷ valued ks xs d

-- the parts name exactly the places of the edits, with the values of the older instance: each node and each of its arcs
-- once and rising, and each arc that is added
pub record ArePartsOf (edits : List Edit) (old : Instance) (ps : List Part) : Type 0 where
  pub nodes : List ℕ
  pub arcs : List ℕ
  pub nodes_named : AreNames nodes (nodes_of edits)
  pub arcs_named : AreNames arcs (arcs_of (length old.arcs) edits)
  pub parts : ps ≡ listed (record { supplies = valued nodes (supplies_in old.demand) (pos 0); rows = valued arcs old.arcs no_row; come_rows = []; come_flows = []; go = arcs_added edits })

-- the numbers are places of a list of n values
abbrev pub ArePlaces : ℕ → List ℕ → Type 0
ArePlaces n ks = All (λ k. (1 ≤ k) × (k ≤ n)) ks

-- ---- the parts that were logged of a change

-- whether the part is at a node, or at one of the first n arcs
abbrev pub is_there : ℕ → Part → Bool
is_there n (Arc k row) = nat_le k n
is_there n (Supply id value) = true
is_there n Last = false
is_there n (Gone row flow) = false

-- how many arcs were added
abbrev pub new_arcs : List Part → ℕ
new_arcs [] = 0
new_arcs (Last ∷ ps) = new_arcs ps + 1
new_arcs (p ∷ ps) = new_arcs ps

-- the parts of these
abbrev pub last_parts : List Part → List Part
last_parts ps = replicate (new_arcs ps) Last

-- where its place comes in a record: all nodes come before the arcs
abbrev pub rank : ℕ → Part → ℕ
rank nodes (Arc k row) = nodes + k
rank nodes (Supply id value) = id
rank nodes Last = 0
rank nodes (Gone row flow) = 0

-- the first value of each rank, by their ranks
pub record AreFirst {X : Type 0} (rank : X → ℕ) (all firsts : List X) : Type 0 where
  pub rising : AllPairs (λ x y. rank x < rank y) firsts
  pub first : All (λ x. find (λ y. nat_eq (rank y) (rank x)) all ≡ Some x) firsts
  pub each : (x : X) → Contains all x → Any (λ y. rank y ≡ rank x) firsts
