-- Tables of numbers that are within a limit.
use Rattle.std.proofs.Common.{ℕ, ℤ, List, slice_set, FitsSigned, w64, to_z, of_z, arith}
use Rattle.std.proofs.lemmas.Grind.{elements}
use Rattle.std.proofs.lemmas.Int.{to_z-of_z}
use Rattle.relaxation.specs.Limits.{IsWithin}
use Rattle.relaxation.specs.Links.{AreWithin}

-- one of them becomes another that is within it too
AreWithin-set : (limit : ℕ) (xs : List ℤ) (k : ℕ) (x : ℤ) → AreWithin limit xs → IsWithin limit x → AreWithin limit (slice_set xs k x)
AreWithin-set limit xs k x within here v below = grind (arith, elements)

-- the same for a number as the code writes it
pub AreWithin-put : (limit : ℕ) (xs : List ℤ) (k : ℕ) (x : ℤ) → FitsSigned w64 x → AreWithin limit xs → IsWithin limit x → AreWithin limit (slice_set xs k (to_z w64 (of_z w64 x)))
AreWithin-put limit xs k x fits within here = rw (to_z-of_z w64 x fits) (AreWithin-set limit xs k x within here)
