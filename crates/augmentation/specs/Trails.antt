-- What walks back over a forest look at.
use Rattle.std.specs.Prelude.{◌≡◌, ℤ, List, length}
use Rattle.residual_graph.specs.Limits.{potential_floor}
use Rattle.residual_graph.specs.Residual.{ArePotentials, IsPseudoflow}
use Rattle.augmentation.specs.declared.trails.Ground.{Ground}

-- a flow of the graph, and for each node an excess, and a potential p
pub record IsGround (on : Ground) (p : List ℤ) : Type 0 where
  pub flow : IsPseudoflow (length p) on.graph.now.rows on.flow.now
  pub potentials : ArePotentials (length p) potential_floor p
  pub excess_in : length on.excess.now ≡ length p
