-- The ranges of the numbers of a network and of its potentials, wide enough for each problem and for the return arc of a maximum
-- flow.
use Rattle.std.specs.Prelude.{ℕ}

-- entries of a table of nodes: one for each of 50,000 nodes, and entry 0, which stands for no node
abbrev pub entry_limit : ℕ
entry_limit = 50001

-- rows of a table of arcs: 200,000 arcs and a return arc
abbrev pub row_limit : ℕ
row_limit = 200001

-- the flow of an arc
abbrev pub flow_limit : ℕ
flow_limit = 100000000000000

-- a cost, either way
abbrev pub cost_limit : ℕ
cost_limit = 1000000000000

-- how far a potential lies below 0 between two searches
abbrev pub potential_floor : ℕ
potential_floor = 300000000000000000
