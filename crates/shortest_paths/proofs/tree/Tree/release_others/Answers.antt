use Rattle.std.proofs.Common.{rules, subst}
use Rattle.shortest_paths.specs.Tree.{IsRelabelled, TreeView}
use Rattle.shortest_paths.proofs.TreeLemmas.{relabelled_on}
use Rattle.shortest_paths.proofs.tree.Tree.release_others.Goals as goal
use Rattle.shortest_paths.proofs.tree.Tree.release_others.Goals.{then-not-are_few, else-not-are_few+then-len-capacity, else-not-are_few+else-len-capacity}

pub loop-v-preserved : goal.loop-v-preserved
loop-v-preserved c = elim c.if-not-are_few.branch [
  | then-not-are_few w ↦ record { sized = search rules; marked = rw w.self-is (relabelled_on c.loop-v.invariant.marked w.wait.ensures.marked) }
  | else-not-are_few+then-len-capacity w ↦ record {
    sized = search rules;
    marked = rw w.self-is (relabelled_on c.loop-v.invariant.marked (subst (λ (t : TreeView). IsRelabelled t w.put.new.self) c.self-in-loop-v.view_is w.put.ensures.marked));
  }
  | else-not-are_few+else-len-capacity w ↦ search rules
]
