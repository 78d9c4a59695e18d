-- The ranges of numbers.
use Rattle.std.specs.Prelude.{ℕ}
pub use Rattle.residual_ends.specs.Limits.{IsWithin, cost_limit, room_limit}

-- a potential, either way
abbrev pub potential_limit : ℕ
potential_limit = 150000000000000000

-- what lies at a node, either way
abbrev pub rest_limit : ℕ
rest_limit = 4000000000000000000
