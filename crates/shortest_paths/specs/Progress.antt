-- The words of a search, of what it looks at.
use Rattle.std.specs.Prelude.{ℕ, ◌/◌}
use Rattle.containers.specs.Queue.{QueueView}
use Rattle.residual_graph.specs.declared.residual.Way.{Way}
use Rattle.residual_graph.specs.Walk.{end_way}
use Rattle.shortest_paths.specs.declared.progress.Progress.{Progress}
use Rattle.shortest_paths.specs.Levels.{IsLeadingTo}
use Rattle.shortest_paths.specs.Search.{AreServed, AreServedFrom, Crosses, HaveJoined, IsServed}

-- the residual arc that leaves at an end crosses
abbrev pub CrossesOn : Progress → ℕ → Type 0
CrossesOn on end = Crosses on.graph.now.rows on.flow.now on.predecessors.now (end / 2) (end_way end)

-- nodes joined those that waited
abbrev pub HaveJoinedOn : Progress → QueueView → QueueView → Type 0
HaveJoinedOn on q r = HaveJoined on.graph.now.rows on.flow.now on.potentials.now on.predecessors.now q r

-- where the residual arc in this way along arc k crosses, it is served
abbrev pub IsServedOn : Progress → QueueView → ℕ → Way → Type 0
IsServedOn on q k way =
    Crosses on.graph.now.rows on.flow.now on.predecessors.now k way → IsServed on.graph.now.rows on.potentials.now q k way

-- so it is of those from this node, and of all
abbrev pub AreServedFromOn : Progress → QueueView → ℕ → Type 0
AreServedFromOn on q v = AreServedFrom on.graph.now.rows on.flow.now on.potentials.now on.predecessors.now q v

abbrev pub AreServedOn : Progress → QueueView → Type 0
AreServedOn on q = AreServed on.graph.now.rows on.flow.now on.potentials.now on.predecessors.now q

-- the residual arc that leaves at an end crosses, leads to node v, and costs nothing
abbrev pub IsLeadingToOn : Progress → ℕ → ℕ → Type 0
IsLeadingToOn on v end = IsLeadingTo on.graph.now.rows on.flow.now on.potentials.now on.predecessors.now v end
