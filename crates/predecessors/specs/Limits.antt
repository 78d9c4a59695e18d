-- The range of labels, wide enough for each problem and for the return arc of a maximum flow.
use Rattle.std.specs.Prelude.{ℕ}

-- how far a shortest label lies below 0: 50,000 arcs of the greatest cost
abbrev pub label_floor : ℕ
label_floor = 50000000000000000
