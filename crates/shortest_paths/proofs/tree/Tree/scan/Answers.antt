use Rattle.std.proofs.Common.{rules}
use Rattle.shortest_paths.proofs.TreeLemmas.{relabelled_on}
use Rattle.shortest_paths.proofs.tree.Tree.scan.Goals as goal
use Rattle.shortest_paths.proofs.tree.Tree.scan.Goals.{then-by-index+then-room-gt0, else-by-index}

pub loop-i-preserved : goal.loop-i-preserved
loop-i-preserved c = elim c.if-by-index.branch [
  | then-by-index+then-room-gt0 w ↦ record { sized = search rules; marked = rw w.self-is (relabelled_on c.loop-i.invariant.marked w.wait.ensures.marked) }
  | else-by-index w ↦ search rules
]
