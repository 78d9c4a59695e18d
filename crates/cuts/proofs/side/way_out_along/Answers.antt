use Rattle.std.proofs.Common.{◌∙◌, ap, false, subst, sym, true}
use Rattle.std.proofs.lemmas.Bool.{false_from_ne_true, true_from_ne_false, true≢false}
use Rattle.dimacs_text.specs.declared.problem.ArcRow.{ArcRow}
use Rattle.residual_graph.specs.Residual.{IsResidual}
use Rattle.tracked.specs.Marks.{in_set}
use Rattle.cuts.specs.Cut.{LeadsOut, way_from}
use Rattle.cuts.proofs.CutLemmas.{out_along}
use Rattle.cuts.proofs.side.way_out_along.Goals as goal

pub returns-then-from_tail-clause-some : goal.returns-then-from_tail-clause-some
returns-then-from_tail-clause-some c =
    let side = c.args.on.side in
    let rows = c.args.on.graph.now.rows in
    let x = c.args.on.flow.now in
    let set = c.args.marked.now in
    let residual = subst (IsResidual rows x c.args.arc) (c.way_from-way.ensures ∙ ap (way_from side) c.if-from_tail.true) (c.has_room.ensures.0 c.if-not-has_room.false) in
    let near = ap (λ (a : ArcRow). in_set set a.tail) (sym c.row-row.ensures) ∙ sym c.is_noted-from_tail.ensures ∙ c.if-from_tail.true in
    let far = ap (λ (a : ArcRow). in_set set a.head) (sym c.row-row.ensures) ∙ sym c.is_noted.ensures ∙ false_from_ne_true c.is_noted.result (λ h. true≢false (rw (c.if-from_tail.true, h) at c.if-from_tail-is_noted.false)) in
    subst (λ (a : ArcRow). LeadsOut side rows x set a.head) (sym c.row-row.ensures) (out_along side rows x set c.args.arc true c.requires.flow residual near far)

pub returns-else-from_tail-clause-some : goal.returns-else-from_tail-clause-some
returns-else-from_tail-clause-some c =
    let side = c.args.on.side in
    let rows = c.args.on.graph.now.rows in
    let x = c.args.on.flow.now in
    let set = c.args.marked.now in
    let residual = subst (IsResidual rows x c.args.arc) (c.way_from-way.ensures ∙ ap (way_from side) c.if-from_tail.false) (c.has_room.ensures.0 c.if-not-has_room.false) in
    let near = ap (λ (a : ArcRow). in_set set a.head) (sym c.row-row.ensures) ∙ sym c.is_noted.ensures ∙ true_from_ne_false c.is_noted.result (λ h. true≢false (rw (c.if-from_tail.false, h) at c.if-from_tail-is_noted.false)) in
    let far = ap (λ (a : ArcRow). in_set set a.tail) (sym c.row-row.ensures) ∙ sym c.is_noted-from_tail.ensures ∙ c.if-from_tail.false in
    subst (λ (a : ArcRow). LeadsOut side rows x set a.tail) (sym c.row-row.ensures) (out_along side rows x set c.args.arc false c.requires.flow residual near far)
