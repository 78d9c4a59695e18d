-- The two sides of a flow, from which nodes are reached along residual arcs.
use Rattle.std.specs.Prelude.{ℤ, pos, ◌<ℤ◌}
use Rattle.residual_graph.specs.declared.side.Side.{Side}
use Rattle.residual_graph.specs.declared.side.Side.TheVariants.{Ahead, Behind}

-- a node with this excess is one that a side begins at: ahead those in excess, behind those in deficit
abbrev pub IsRoot : Side → ℤ → Type 0
IsRoot Ahead e = pos 0 <ℤ e
IsRoot Behind e = e <ℤ pos 0
