use Rattle.std.proofs.Common.{◌∙◌, Bool, List, not, subst, sym, ◌<◌}
use Rattle.std.specs.List.{count_by}
use Rattle.cuts.specs.Cut.{IsGrown}
use Rattle.cuts.proofs.CutLemmas.{IsGrown-then, fewer_then}
use Rattle.cuts.proofs.side.mark_side.Goals as goal

pub loop-node-init : goal.loop-node-init
loop-node-init c =
    let roots = c.mark_roots.ensures.marked in
    let grown = c.mark_again.ensures in
    record {
      same_size = grown.same_size ∙ c.mark_roots.ensures.same_size;
      holds = λ v root. grown.kept v ((roots v).1 root);
      least = λ other closed holds. grown.least other closed (λ v is. holds v ((roots v).0 is));
    }

pub loop-node-preserved : goal.loop-node-preserved
loop-node-preserved c =
    let before = c.loop-node.invariant in
    let grown = subst (λ (set : List Bool). IsGrown c.args.on.side c.args.on.graph.now.rows c.args.on.flow.now c.loop-node.marked set) (sym c.note.ensures) (IsGrown-then c.in-Some.ensures.some c.mark_reached.ensures) in
    record {
      same_size = grown.same_size ∙ before.same_size;
      holds = λ v root. grown.kept v (before.holds v root);
      least = λ other closed holds. grown.least other closed (before.least other closed holds);
    }

pub loop-node-smaller : goal.loop-node-smaller
loop-node-smaller c = subst (λ (set : List Bool). count_by not set < count_by not c.loop-node.marked) (sym c.note.ensures) (fewer_then c.in-Some.ensures.some c.mark_reached.ensures)
