use Rattle.std.proofs.Common.{◌∙◌, ap, arith, length, subst, sym}
use Rattle.shortest_paths.specs.Tree.{TreeView}
use Rattle.augmentation.specs.ScratchView.{ScratchView}
use Rattle.augmentation.specs.Settle.{AreShortest}
use Rattle.augmentation.proofs.HeldLemmas.{held_by, shortest_of}
use Rattle.augmentation.proofs.near.raise.Goals as goal

pub returns-clause-shortest : goal.returns-clause-shortest
returns-clause-shortest c = λ yes.
    (let t = c.is_renewed.new.tree in
    let sized = c.is_renewed.ensures.sized ∙ ap (λ (u : TreeView). length u.labels) c.lower.ensures ∙ ap (λ (v : ScratchView). length v.tree.labels) c.scratch.view_is ∙ c.requires.scratch_in in
    subst (AreShortest c.args.graph.now.rows c.args.flow.now.entries) (sym c.write_labels.ensures.entries)
    (shortest_of (length c.args.potentials.now.entries) c.args.graph.now.rows c.args.flow.now.entries t.labels t.predecessors c.requires.flow sized (c.is_renewed.ensures.tested c.if-not-is_renewed.false)))

pub returns-clause-held : goal.returns-clause-held
returns-clause-held c =
    held_by c.args.graph.now.rows c.args.flow.now.whole c.args.flow.now.entries c.is_renewed.new.tree.labels c.is_renewed.new.tree.predecessors c.places.result.now c.accept.new.self
    (omega (arith, c.requires.flow.same_length, c.places.ensures.as_many)) c.accept.ensures.labels c.accept.ensures.predecessors c.places.ensures.all_named c.accept.ensures.noted (c.is_renewed.ensures.tested c.if-not-is_renewed.false)
