use Rattle.std.proofs.Common.{sym, ◌∙◌}
use Rattle.network.proofs.EditedAll.{edited_one}
use Rattle.network.specs.Instance.{at_node}
use Rattle.flow_solver.specs.Moment.{Moment}
use Rattle.flow_solver.proofs.GroupLemmas.{one_change}
use Rattle.session.proofs.Applying.{on_ok, on_ok_both, if_ok, one_edited}
use Rattle.session.proofs.Placing.{one_place}
use Rattle.session.proofs.session.Session.apply.Goals as goal

pub returns-clause-edited : goal.returns-clause-edited
returns-clause-edited g c = on_ok c.apply_group.result _ _ (one_edited c.args.edit.now c.args.self.now.moments.present c.apply_group.new.self.moments.present) c.apply_group.ensures.edited

-- the one part names the place of the edit
pub returns-clause-records : goal.returns-clause-records
returns-clause-records g c =
    let I = c.args.self.now.moments.present.instance in
    let J = c.apply_group.new.self.moments.present.instance in
    on_ok_both c.apply_group.result _ _ _
    (λ is (r, all, are). (r, all, one_place c.args.edit.now I J r.parts (sym (edited_one I c.args.edit.now) ∙ is.instance) are))
    c.apply_group.ensures.edited c.apply_group.ensures.records

pub returns-clause-cause : goal.returns-clause-cause
returns-clause-cause g c = λ number. rw (← edited_one c.args.self.now.moments.present.instance c.args.edit.now) (c.apply_group.ensures.cause number)

pub returns-clause-pushes : goal.returns-clause-pushes
returns-clause-pushes g c =
    let m : Moment = c.args.self.now.moments.present in
    let d : Moment = c.apply_group.new.self.moments.present in
    if_ok c.apply_group.result _ _ (λ n. one_change m.instance d.instance c.args.edit.now (at_node m.potentials) m.flow d.flow n) c.apply_group.ensures.pushes
