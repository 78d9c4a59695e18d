-- The ranges of numbers.
use Rattle.std.specs.Prelude.{ℕ, ℤ, pos, neg_ℤ, ◌+ℤ◌, ◌≤ℤ◌}
use Rattle.residual_ends.specs.declared.arc.Arc.{Arc}

-- a cost, either way
abbrev pub cost_limit : ℕ
cost_limit = 1000000000000

-- the rooms of an arc, both ways together
abbrev pub room_limit : ℕ
room_limit = 2000000000

-- a number of at most this size
pub record IsWithin (limit : ℕ) (x : ℤ) : Type 0 where
  pub low : neg_ℤ (pos limit) ≤ℤ x
  pub high : x ≤ℤ pos limit

-- the numbers of an arc are within the limits
pub record IsInLimits (arc : Arc) : Type 0 where
  pub cost : IsWithin cost_limit arc.cost
  pub low : pos 0 ≤ℤ arc.low
  pub above : arc.low ≤ℤ arc.flow
  pub below : arc.flow ≤ℤ arc.cap
  pub cap : arc.cap ≤ℤ (arc.low +ℤ pos room_limit)
