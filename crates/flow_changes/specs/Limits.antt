-- The ranges of the numbers that pushes handle, wide enough for each problem and for the return arc of a maximum flow.
use Rattle.std.specs.Prelude.{ℕ}

-- the sum of all capacities
abbrev pub cap_sum_limit : ℕ
cap_sum_limit = 300000000000000

-- a supply, either way
abbrev pub supply_limit : ℕ
supply_limit = 1000000000000

-- an excess, either way: a supply and all capacities
abbrev pub excess_limit : ℕ
excess_limit = 301000000000000

-- the sum of all excesses
abbrev pub left_limit : ℕ
left_limit = 15050301000000000000
