-- The rows of an instance: the arcs of its reduction to minimum cost, the return arc before those of the instance.
use Rattle.std.specs.Prelude.{ℕ}
use Rattle.network.specs.Instance.{Demand, Supplies, Terminals, Sides}

-- how many return arcs there are
abbrev pub return_arcs : Demand → ℕ
return_arcs (Supplies supplies) = 0
return_arcs (Terminals source sink) = 1
return_arcs (Sides marks) = 0
