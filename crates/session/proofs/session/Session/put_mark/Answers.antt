use Rattle.std.proofs.Common.{sym, ap, ◌∙◌, length}
use Rattle.history.specs.Boards.{boards}
use Rattle.session.specs.Record.{with_record}
use Rattle.session.specs.Session.{Stack}
use Rattle.session.proofs.Apart.{put_few}
use Rattle.session.proofs.Marking.{on_present}
use Rattle.session.proofs.session.Session.put_mark.Goals as goal

-- the mark is that of the present moment
pub invariant_of-self-2 : goal.invariant_of-self-2
invariant_of-self-2 g c =
    let here = c.steps-past.ensures.past ∙ ap (λ (s : Stack). length s.moments.past) (sym c.self.view_is) in
    record {
      kept = c.self.invariant.kept;
      marked = on_present (boards with_record c.self.inside.history c.self.inside.tables.moment) c.self.inside.marks c.put.new.self c.args.name.now c.steps-past.result.0 here c.self.invariant.marked c.if-not-put.ensures.put;
      few = rw c.if-not-put.ensures.put (put_few c.self.inside.marks c.args.name.now c.steps-past.result.0 c.self.invariant.few (sym c.put.ensures.answer ∙ c.if-not-put.false));
    }

pub returns-clause-few : goal.returns-clause-few
returns-clause-few g c = rw c.if-not-put.ensures.put (put_few c.self.inside.marks c.args.name.now c.steps-past.result.0 c.self.invariant.few (sym c.put.ensures.answer ∙ c.if-not-put.false))
