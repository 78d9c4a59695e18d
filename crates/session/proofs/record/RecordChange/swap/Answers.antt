use Rattle.std.proofs.Common.{length, sym, ap, subst, ◌∙◌}
use Rattle.std.proofs.lemmas.List.{with_items_is}
use Rattle.flow_solver.specs.Moment.{Moment}
use Rattle.session.specs.PlacesLaws.{length-taken}
use Rattle.session.specs.Record.{Recorded, RecordFits, with_record, record_turned}
use Rattle.session.proofs.Running.{length-turned}
use Rattle.session.proofs.Swapping.{lawful_fourth, one_an_arc_fourth, parts_fourth, moment_left, record_left}
use Rattle.session.proofs.record.RecordChange.swap.Goals as goal

pub swap_parts-requires-clause-one_an_arc : goal.swap_parts-requires-clause-one_an_arc
swap_parts-requires-clause-one_an_arc g c =
    let r : Recorded = record { parts = c.self.inside.parts.items; flows = c.self.inside.flows.items; potentials = c.self.inside.potentials.items; marks = c.self.inside.marks.items; verdict = c.self.inside.verdict } in
    let m : Moment = c.args.tables.now.moment in
    let fits = subst (λ (q : Recorded). RecordFits q m) (sym c.self.view_is) c.requires in
    let flows = rw c.deref_mut.ensures.value at c.swap_flows.ensures.moment in
    let potentials = rw c.deref_mut-2.ensures.value at c.swap_potentials.ensures.moment in
    let marks = rw c.deref_mut-3.ensures.value at c.swap_marks.ensures.moment in
    one_an_arc_fourth r m fits c.swap_flows.new.tables.moment c.swap_potentials.new.tables.moment c.swap_marks.new.tables.moment flows potentials marks c.swap_verdict.new.self.moment c.swap_verdict.ensures.moment

-- each list and the parts are left with what the moment had
pub returns-clause-change : goal.returns-clause-change
returns-clause-change g c =
    let r : Recorded = record { parts = c.self.inside.parts.items; flows = c.self.inside.flows.items; potentials = c.self.inside.potentials.items; marks = c.self.inside.marks.items; verdict = c.self.inside.verdict } in
    let m : Moment = c.args.tables.now.moment in
    let fits = subst (λ (q : Recorded). RecordFits q m) (sym c.self.view_is) c.requires in
    let flows = rw c.deref_mut.ensures.value at c.swap_flows.ensures.moment in
    let potentials = rw c.deref_mut-2.ensures.value at c.swap_potentials.ensures.moment in
    let marks = rw c.deref_mut-3.ensures.value at c.swap_marks.ensures.moment in
    let flows_are = rw c.deref_mut.ensures.value at c.swap_flows.ensures.places in
    let potentials_are = rw c.deref_mut-2.ensures.value at c.swap_potentials.ensures.places in
    let marks_are = rw c.deref_mut-3.ensures.value at c.swap_marks.ensures.places in
    let m₄ : Moment = c.swap_verdict.new.self.moment in
    let lawful = lawful_fourth r m fits c.swap_flows.new.tables.moment c.swap_potentials.new.tables.moment c.swap_marks.new.tables.moment flows potentials marks m₄ c.swap_verdict.ensures.moment in
    let one = one_an_arc_fourth r m fits c.swap_flows.new.tables.moment c.swap_potentials.new.tables.moment c.swap_marks.new.tables.moment flows potentials marks m₄ c.swap_verdict.ensures.moment in
    let parts_fit = parts_fourth r m fits c.swap_flows.new.tables.moment c.swap_potentials.new.tables.moment c.swap_marks.new.tables.moment flows potentials marks m₄ c.swap_verdict.ensures.moment in
    let parts_are = rw c.deref_mut-4.ensures.value at c.swap_parts.ensures.parts in
    record_left r m fits c.swap_flows.new.tables.moment c.swap_potentials.new.tables.moment c.swap_marks.new.tables.moment flows potentials marks c.swap_verdict.new.self.moment c.swap_verdict.ensures.moment
    _ _ _ _ _
    (with_items_is c.self.inside.flows c.swap_flows.new.places (ap length flows_are ∙ length-taken r.flows _ ∙ sym c.self.inside.flows.ok.0) ∙ flows_are)
    (with_items_is c.self.inside.potentials c.swap_potentials.new.places (ap length potentials_are ∙ length-taken r.potentials _ ∙ sym c.self.inside.potentials.ok.0) ∙ potentials_are)
    (with_items_is c.self.inside.marks c.swap_marks.new.places (ap length marks_are ∙ length-taken r.marks _ ∙ sym c.self.inside.marks.ok.0) ∙ marks_are)
    c.swap_verdict.ensures.value
    (with_items_is c.self.inside.parts c.swap_parts.new.parts (ap length parts_are ∙ length-turned r.parts m₄ parts_fit lawful one ∙ sym c.self.inside.parts.ok.0) ∙ parts_are)
    ∙ ap (λ (q : Recorded). record_turned q m) c.self.view_is

pub returns-clause-board : goal.returns-clause-board
returns-clause-board g c =
    let r : Recorded = record { parts = c.self.inside.parts.items; flows = c.self.inside.flows.items; potentials = c.self.inside.potentials.items; marks = c.self.inside.marks.items; verdict = c.self.inside.verdict } in
    let m : Moment = c.args.tables.now.moment in
    let fits = subst (λ (q : Recorded). RecordFits q m) (sym c.self.view_is) c.requires in
    let flows = rw c.deref_mut.ensures.value at c.swap_flows.ensures.moment in
    let potentials = rw c.deref_mut-2.ensures.value at c.swap_potentials.ensures.moment in
    let marks = rw c.deref_mut-3.ensures.value at c.swap_marks.ensures.moment in
    moment_left r m fits c.swap_flows.new.tables.moment c.swap_potentials.new.tables.moment c.swap_marks.new.tables.moment flows potentials marks c.swap_verdict.new.self.moment c.swap_verdict.ensures.moment
    c.swap_parts.new.tables.moment (rw c.deref_mut-4.ensures.value at c.swap_parts.ensures.moment)
    ∙ ap (λ (q : Recorded). with_record q m) c.self.view_is
