use Rattle.std.proofs.Common.{rules}
use Rattle.shortest_paths.proofs.TreeLemmas.{relabelled_on}
use Rattle.shortest_paths.proofs.tree.Tree.reach_from.Goals as goal
use Rattle.shortest_paths.proofs.tree.Tree.reach_from.Goals.{then-joint-2+then-has_label-2, else-joint-2}

pub loop-preserved : goal.loop-preserved
loop-preserved c = elim c.if-joint-2.branch [
  | then-joint-2+then-has_label-2 w ↦ record { sized = search rules; marked = rw w.self-is (relabelled_on c.loop.invariant.marked w.reach-then-has_label-2.ensures.marked) }
  | else-joint-2 w ↦ search rules
]
