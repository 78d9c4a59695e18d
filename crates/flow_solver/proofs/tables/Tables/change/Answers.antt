use Rattle.network.specs.Instance.{at_node}
use Rattle.network.proofs.EditedAll.{edited_one}
use Rattle.std.proofs.Common.{◌∙◌, sym}
use Rattle.flow_solver.proofs.GroupLemmas.{one_change}
use Rattle.flow_solver.proofs.tables.Tables.change.Goals as goal

pub change_all-requires-clause-accepted : goal.change_all-requires-clause-accepted
change_all-requires-clause-accepted c = rw edited_one c.requires.accepted

pub returns-clause-instance : goal.returns-clause-instance
returns-clause-instance c = sym (edited_one c.args.self.now.moment.instance c.args.edit.now) ∙ c.change_all.ensures.instance

pub returns-clause-changed : goal.returns-clause-changed
returns-clause-changed c =
    let old = c.args.self.now.moment in
    one_change old.instance c.change_all.new.self.moment.instance c.args.edit.now (at_node old.potentials) old.flow c.change_all.new.self.moment.flow c.change_all.result c.change_all.ensures.changed
