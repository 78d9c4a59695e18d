-- What leads on from the marked nodes of a side.
use Rattle.std.specs.Prelude.{ℕ, List, Bool}
use Rattle.cuts.specs.Cut.{AreFarIn, IsClosed, IsClosedAlong, IsGrown, LeadsOut}
use Rattle.cuts.specs.declared.side.OnSide.{OnSide}

-- no node is marked but those that were, and what leads on from them
abbrev pub IsGrownOn : OnSide → List Bool → List Bool → Type 0
IsGrownOn on old new = IsGrown on.side on.graph.now.rows on.flow.now old new

-- a residual arc leads on from a marked node to node v, which is not marked
abbrev pub LeadsOutOn : OnSide → List Bool → ℕ → Type 0
LeadsOutOn on set v = LeadsOut on.side on.graph.now.rows on.flow.now set v

-- no residual arc leads out of the marked nodes: none at all, none along arc k, or none that leads on from node v
abbrev pub IsClosedOn : OnSide → List Bool → Type 0
IsClosedOn on set = IsClosed on.side on.graph.now.rows on.flow.now set

abbrev pub IsClosedAlongOn : OnSide → List Bool → ℕ → Type 0
IsClosedAlongOn on set k = IsClosedAlong on.side on.graph.now.rows on.flow.now set k

abbrev pub AreFarOn : OnSide → List Bool → ℕ → Type 0
AreFarOn on set v = AreFarIn on.side on.graph.now.rows on.flow.now set v
