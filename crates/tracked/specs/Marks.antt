-- Sets as marks, one a place, and the list of what is marked.
use Rattle.std.specs.Prelude.{◌≡◌, ◌≢◌, ℕ, ◌+◌, List, length, slice_index_or, Bool, true, false, not, All, AllPairs, Any}
use Rattle.std.specs.List.{count_by}

-- whether node v is in the set
abbrev pub in_set : List Bool → ℕ → Bool
in_set set v = slice_index_or set v false

-- the list has the nodes of the set, each once; so it has room for a node outside where it has some for each node
pub record IsListOf (set : List Bool) (list : List ℕ) : Type 0 where
  pub inside : All (λ v. in_set set v ≡ true) list
  pub listed : (v : ℕ) → in_set set v ≡ true → Any (λ p. p ≡ v) list
  pub apart : AllPairs ◌≢◌ list
  pub room : length list + count_by not set ≡ length set
