-- Numbers of all nodes, as steps read them.
use Rattle.std.specs.Prelude.{ℕ, ◌<◌, ℤ, pos, List, length, slice_index_or}
use Rattle.residual_ends.specs.Limits.{IsWithin}
pub use Rattle.residual_ends.specs.Links.{LeadTo}

-- each of the numbers is of at most this size
abbrev pub AreWithin : ℕ → List ℤ → Type 0
AreWithin limit xs = (v : ℕ) → v < length xs → IsWithin limit (slice_index_or xs v (pos 0))
