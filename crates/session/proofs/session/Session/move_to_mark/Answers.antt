use Rattle.std.proofs.Common.{sym, ap, ◌∙◌, length}
use Rattle.history.specs.Boards.{boards}
use Rattle.session.specs.Record.{with_record}
use Rattle.session.specs.Session.{Stack}
use Rattle.session.proofs.Marking.{few_ahead}
use Rattle.session.proofs.session.Session.move_to_mark.Goals as goal

-- so many moments are ahead
pub redo_steps-requires : goal.redo_steps-requires
redo_steps-requires g c =
    let t = boards with_record c.self.inside.history c.self.inside.tables.moment in
    let here = c.steps-past.ensures.past ∙ ap (λ (s : Stack). length s.moments.past) (sym c.self.view_is) in
    record {
      there = rw (← c.self.view_is) (few_ahead t c.self.inside.marks c.args.name.now c.in-Some.moment c.steps-past.result.0 c.self.invariant.marked (sym c.moment_of.ensures ∙ c.in-Some.is) here c.if-moment-past.false);
    }
