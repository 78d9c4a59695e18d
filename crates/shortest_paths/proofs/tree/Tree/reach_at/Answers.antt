use Rattle.std.proofs.Common.{rules}
use Rattle.shortest_paths.proofs.TreeLemmas.{relabelled_on}
use Rattle.shortest_paths.proofs.tree.Tree.reach_at.Goals as goal
use Rattle.shortest_paths.proofs.tree.Tree.reach_at.Goals.{then-is_reached+then-room-gt0, then-is_reached+else-room-gt0, else-is_reached+then-room_back-gt0, else-is_reached+else-room_back-gt0}

pub loop-i-preserved : goal.loop-i-preserved
loop-i-preserved c = elim c.if-is_reached.branch [
  | then-is_reached+then-room-gt0 w ↦ record { sized = search rules; marked = rw w.self-is (relabelled_on c.loop-i.invariant.marked w.reach_beyond.ensures.marked) }
  | then-is_reached+else-room-gt0 w ↦ search rules
  | else-is_reached+then-room_back-gt0 w ↦ record {
    sized = search rules;
    marked = rw w.self-is (relabelled_on c.loop-i.invariant.marked w.reach_beyond-then-room_back-gt0.ensures.marked);
  }
  | else-is_reached+else-room_back-gt0 w ↦ search rules
]
