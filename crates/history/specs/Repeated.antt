-- Steps of one kind, one after another.
use Rattle.std.specs.Prelude.{◌≡◌, ℕ, zero, suc}
use Rattle.history.specs.Boards.{Timeline}

-- so many steps lead from the one timeline to the other
abbrev pub Repeated : {B : Type 0} → (Timeline B → Timeline B → Type 0) → ℕ → Timeline B → Timeline B → Type 0
Repeated Step zero old new = new ≡ old
Repeated {B} Step (suc n) old new = (mid : Timeline B) × Step old mid × Repeated Step n mid new
