-- Tables that note where they are written, so that what stood before can be kept and compared at these places alone.
use Rattle.std.specs.Prelude.{◌≡◌, ℕ, ◌+◌, ◌<◌, ◌⊎◌, Any, List, length, slice_index_or}

module _ {T : Type 0} where
  -- two tables have the same entry at a place
  abbrev pub AgreeAt : List T → List T → ℕ → Type 0
  AgreeAt xs ys k = (d : T) → slice_index_or ys k d ≡ slice_index_or xs k d

  -- the places name each one at which the lists differ, of those that the first list has; its first entry has place `first`
  abbrev pub NameChanges : ℕ → List ℕ → List T → List T → Type 0
  NameChanges first places xs ys = (k : ℕ) → k < length xs → Any (λ p. p ≡ k + first) places ⊎ AgreeAt xs ys k
