-- Lists of nodes in the first places of a table.
use Rattle.std.specs.Prelude.{◌≡◌, ℕ, ◌<◌, List, slice_index_or}

-- the node at a place in a list
abbrev pub node_at : List ℕ → ℕ → ℕ
node_at list j = slice_index_or list j 0

-- node v is among the first `len` in the list
pub record IsListed (list : List ℕ) (len v : ℕ) : Type 0 where
  pub place : ℕ
  pub in_list : place < len
  pub is_there : node_at list place ≡ v
