use Rattle.std.proofs.Common.{subst, sym}
use Rattle.shortest_paths.specs.Tree.{IsRelabelled}
use Rattle.shortest_paths.proofs.TreeLemmas.{relabelled_none}
use Rattle.shortest_paths.proofs.tree.Tree.reach.Goals as goal
use Rattle.shortest_paths.proofs.tree.Tree.reach.Goals.{then-before-end, else-before-end+else-before-rank}

pub returns-clause-marked : goal.returns-clause-marked
returns-clause-marked c =
    let marked : IsRelabelled c.args.self.now c.if-before-end.self = elim c.if-before-end.branch [
      | then-before-end w ↦ subst (IsRelabelled c.args.self.now) (sym w.self-is) w.put.ensures.marked
      | else-before-end+else-before-rank w ↦ subst (IsRelabelled c.args.self.now) (sym w.self-is) (relabelled_none c.args.self.now)
    ] in
    subst (IsRelabelled c.args.self.now) (sym c.self-2.view_is) marked
