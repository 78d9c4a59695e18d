use Rattle.std.proofs.Common.{List, [], ◌∷◌, ◌++◌, length, sym, ap, ap₂, ◌∙◌}
use Rattle.std.proofs.lemmas.List.{append-nil, take_at}
use Rattle.history.specs.Boards.{Timeline, boards}
use Rattle.history.proofs.Timelines.{length-past, boards_same}
use Rattle.network.proofs.Following.{frame_all}
use Rattle.flow_solver.specs.Moment.{Moment}
use Rattle.session.specs.Record.{Recorded, with_record}
use Rattle.session.specs.Session.{Stack}
use Rattle.session.proofs.Apart.{kept_few}
use Rattle.session.proofs.Applying.{was_there, led}
use Rattle.session.proofs.Keeping.{kept_push, kept_same, present_answered}
use Rattle.session.proofs.Marking.{on_new}
use Rattle.session.proofs.session.Session.apply_group.Goals as goal

pub change_all-pushes-requires-clause-certified : goal.change_all-pushes-requires-clause-certified
change_all-pushes-requires-clause-certified g c = (present_answered c.self.inside.history c.self.inside.tables.moment c.self.invariant.kept).certified

pub of_last_change-requires-clause-was_answered : goal.of_last_change-requires-clause-was_answered
of_last_change-requires-clause-was_answered g c =
    rw (was_there c.change_all-pushes.new.self c.self.inside.tables.moment c.change_all-pushes.ensures.before) (present_answered c.self.inside.history c.self.inside.tables.moment c.self.invariant.kept)

-- the new moment and its record are kept
pub invariant_of-self-in-Ok : goal.invariant_of-self-in-Ok
invariant_of-self-in-Ok g c =
    let m : Moment = c.self.inside.tables.moment in
    let d : Moment = c.change_all-pushes.new.self.moment in
    let did = c.change_all-pushes.ensures in
    let leads = led _ _ m c.in-Ok.ensures.leads did.before in
    let fits = c.in-Ok.ensures.fits in
    let kept = kept_same c.self.inside.history c.reserve_one.new.self m c.reserve_one.ensures.past c.reserve_one.ensures.future c.self.invariant.kept in
    let advances = rw leads at (c.push.ensures.boards d fits) in
    let same = ap (λ (t : Timeline Moment). length t.past) (boards_same with_record c.self.inside.history c.reserve_one.new.self m c.reserve_one.ensures.past c.reserve_one.ensures.future) in
    let here = c.steps-past.ensures.past ∙ ap (λ (s : Stack). length s.moments.past) (sym c.self.view_is) ∙ sym same in
    record {
      kept = kept_push c.reserve_one.new.self c.push.new.self c.in-Ok.record m d kept fits c.in-Ok.ensures.exact leads did.answered c.push.ensures.past c.push.ensures.future advances;
      marked = rw c.keep_up_to.ensures (on_new (boards with_record c.reserve_one.new.self m) (boards with_record c.push.new.self d) c.self.inside.marks c.steps-past.result.0 advances here);
      few = rw c.keep_up_to.ensures (kept_few c.self.inside.marks c.steps-past.result.0 c.self.invariant.few);
    }

-- the new moment is led to
pub returns-in-Ok-clause-edited : goal.returns-in-Ok-clause-edited
returns-in-Ok-clause-edited g c =
    let did = c.change_all-pushes.ensures in
    rw (← c.self.view_is) record { instance = did.instance; answered = did.answered; pushes = c.change_all-pushes.result; led = did.changed }

-- the records of the past stay, and the new one is the last
pub returns-in-Ok-clause-records : goal.returns-in-Ok-clause-records
returns-in-Ok-clause-records g c =
    let h = c.self.inside.history in
    let r = c.in-Ok.record in
    let past = c.push.ensures.past ∙ ap (λ (rs : List Recorded). rs ++ r ∷ []) c.reserve_one.ensures.past in
    let all = ap₂ ◌++◌ past c.push.ensures.future ∙ append-nil (h.past ++ r ∷ []) in
    let kept = take_at h.past h.future (length (boards with_record h c.self.inside.tables.moment).past) (sym (length-past with_record h c.self.inside.tables.moment)) in
    let did = c.change_all-pushes.ensures in
    let parts = rw (was_there c.change_all-pushes.new.self c.self.inside.tables.moment did.before) at (c.in-Ok.ensures.parts c.args.edits.now did.logged) in
    rw (← c.self.view_is) (r, all ∙ sym (ap (λ (rs : List Recorded). rs ++ r ∷ []) kept), parts)

-- edits keep the kind
pub returns-in-Ok-clause-kind : goal.returns-in-Ok-clause-kind
returns-in-Ok-clause-kind g c =
    let m : Moment = c.self.inside.tables.moment in
    let d : Moment = c.change_all-pushes.new.self.moment in
    rw (← c.self.view_is) (frame_all m.instance c.args.edits.now d.instance c.change_all-pushes.ensures.instance).kind
