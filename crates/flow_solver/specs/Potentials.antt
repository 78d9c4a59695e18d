-- What is told of potentials.
use Rattle.std.specs.Prelude.{◌≡◌, ℤ, List, true, drop}
use Rattle.augmentation.specs.ScratchView.{ScratchView}
use Rattle.shortest_paths.specs.Tree.{AreInStep}
use Rattle.network.specs.Flow.{IsGreatestPotential}
use Rattle.network.specs.Instance.{Instance, at_node, reduced}
use Rattle.flow_solver.specs.declared.potentials.Potentials.{Potentials}

-- potentials that are told to be the greatest of a flow are so
abbrev pub AreAsTold : Instance → List ℤ → Potentials → Type 0
AreAsTold I x p = p.greatest ≡ true → IsGreatestPotential (reduced I) x (at_node (drop 1 p.table.entries))

-- the potentials are the labels of a scratch, but at the nodes that are marked
abbrev pub KeepStep : Potentials → ScratchView → Type 0
KeepStep p scratch = AreInStep scratch.tree p.table.entries
