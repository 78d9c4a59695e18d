use Rattle.std.proofs.Common.{◌∙◌, List, ap, length, refl, pos}
use Rattle.dimacs_text.specs.declared.problem.ArcRow.{ArcRow}
use Rattle.dimacs_text.specs.declared.command.Edit.TheVariants.{Cap}
use Rattle.network.specs.Edited.{edited_all}
use Rattle.network.proofs.Following.{next_made, follows, ends_fit, few_arcs}
use Rattle.network.proofs.Network.arc_after.Goals as goal

pub loop-edit-init : goal.loop-edit-init
unfolding edited_all
loop-edit-init c = (c.args.self.now, refl, c.numbered_arc-row.ensures, ap (λ (r : List ArcRow). length r) c.numbered-arcs.ensures.value)

pub row_after-row-requires-clause-few : goal.row_after-row-requires-clause-few
row_after-row-requires-clause-few c =
    let before = c.loop-edit.invariant in
    few_arcs c.args.self.now before.0 _ c.loop-edit.arcs c.numbered-arcs.ensures.lawful before.1 before.3

pub row_after-row-requires-clause-ends : goal.row_after-row-requires-clause-ends
row_after-row-requires-clause-ends c =
    let before = c.loop-edit.invariant in
    let next = next_made c.args.self.now before.0 c.args.edits.now c.loop-edit.edit-index (Cap 0 (pos 0)) c.numbered-arcs.ensures.lawful c.loop-edit-test.true c.requires before.1 in
    ends_fit before.0 _ next.after next.lawful next.made

pub count_after-arcs-requires : goal.count_after-arcs-requires
count_after-arcs-requires c =
    let before = c.loop-edit.invariant in
    few_arcs c.args.self.now before.0 _ c.loop-edit.arcs c.numbered-arcs.ensures.lawful before.1 before.3

pub loop-edit-preserved : goal.loop-edit-preserved
loop-edit-preserved c =
    let before = c.loop-edit.invariant in
    let next = next_made c.args.self.now before.0 c.args.edits.now c.loop-edit.edit-index (Cap 0 (pos 0)) c.numbered-arcs.ensures.lawful c.loop-edit-test.true c.requires before.1 in
    let seen = follows before.0 _ next.after next.made in (
      next.after,
      next.so_far,
      c.row_after-row.ensures ∙ rw (before.2, before.3) (seen.row c.args.k),
      c.count_after-arcs.ensures ∙ rw before.3 seen.arcs,
    )
