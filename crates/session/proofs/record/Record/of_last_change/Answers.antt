use Rattle.std.proofs.Common.{◌∙◌, ap}
use Rattle.network.specs.Instance.{Instance}
use Rattle.network.specs.Rows.{return_arcs}
use Rattle.session.proofs.Recording.{flows_named, potentials_named, marks_named, told}
use Rattle.session.proofs.record.Record.of_last_change.Goals as goal

pub differences-requires-clause-named : goal.differences-requires-clause-named
differences-requires-clause-named g c =
    let shown = c.args.tables.now in
    flows_named shown.before shown.moment c.requires.before c.requires.was_answered c.requires.answered c.in_ok-parts.parts.items c.in_ok-parts.ensures.back c.return_arcs.result c.touched_flow.result.now c.old_flow.result.now c.flow.result.now (c.return_arcs.ensures.count ∙ ap (λ (I : Instance). return_arcs I.demand) c.network.ensures) c.touched_flow.ensures.named c.old_flow.ensures c.flow.ensures.value

pub differences-requires-2-clause-named : goal.differences-requires-2-clause-named
differences-requires-2-clause-named g c =
    let shown = c.args.tables.now in
    potentials_named shown.before shown.moment c.requires.before c.requires.was_answered c.requires.answered c.touched_potentials.result.now c.old_potentials.result.now c.potentials.result.now c.touched_potentials.ensures.named c.old_potentials.ensures c.potentials.ensures.value

pub differences-requires-3-clause-named : goal.differences-requires-3-clause-named
differences-requires-3-clause-named g c =
    let shown = c.args.tables.now in
    marks_named shown.before shown.moment c.requires.before c.requires.was_answered c.requires.answered c.touched_cut.result.now c.old_cut.result.now c.cut.result.now c.touched_cut.ensures.named c.old_cut.ensures c.cut.ensures.value

pub returns-clause-fits : goal.returns-clause-fits
returns-clause-fits g c =
    let shown = c.args.tables.now in
    (told shown.before shown.moment c.requires.before c.requires.was_answered c.requires.answered c.in_ok-parts.parts.items c.in_ok-flows.flows.items c.in_ok-potentials.potentials.items c.in_ok-marks.marks.items c.old_verdict.result
    c.old_flow.result.now c.flow.result.now c.old_potentials.result.now c.potentials.result.now c.old_cut.result.now c.cut.result.now
    c.in_ok-parts.ensures.back c.old_flow.ensures c.flow.ensures.value c.old_potentials.ensures c.potentials.ensures.value c.old_cut.ensures c.cut.ensures.value c.old_verdict.ensures
    c.in_ok-flows.ensures c.in_ok-potentials.ensures c.in_ok-marks.ensures).0

pub returns-clause-leads : goal.returns-clause-leads
returns-clause-leads g c =
    let shown = c.args.tables.now in
    (told shown.before shown.moment c.requires.before c.requires.was_answered c.requires.answered c.in_ok-parts.parts.items c.in_ok-flows.flows.items c.in_ok-potentials.potentials.items c.in_ok-marks.marks.items c.old_verdict.result
    c.old_flow.result.now c.flow.result.now c.old_potentials.result.now c.potentials.result.now c.old_cut.result.now c.cut.result.now
    c.in_ok-parts.ensures.back c.old_flow.ensures c.flow.ensures.value c.old_potentials.ensures c.potentials.ensures.value c.old_cut.ensures c.cut.ensures.value c.old_verdict.ensures
    c.in_ok-flows.ensures c.in_ok-potentials.ensures c.in_ok-marks.ensures).1
