-- What a run of pushes does to flow and excess.
use Rattle.std.specs.Prelude.{ℕ, ℤ, List}
use Rattle.residual_graph.specs.Graph.{GraphView}
use Rattle.tracked.specs.Tracked.{IsWritten, TrackedView}
use Rattle.augmentation.specs.Pseudoflow.{IsCertifiedIn}
use Rattle.flow_changes.specs.Push.{ArePushesOf}
use Rattle.augmentation.specs.ScratchView.{ScratchView}

-- n pushes lead from flow x with excess e to flow y with excess f, which the labels of the scratch certify
pub record HavePushed (g : GraphView) (n : ℕ) (x y : TrackedView ℤ) (e f : List ℤ) (s : ScratchView) : Type 0 where
  pub written : IsWritten x y
  pub state : IsCertifiedIn g y f s
  pub pushes : ArePushesOf g n x e y f
