use Rattle.std.proofs.Common.{subst}
use Rattle.flow_solver.specs.Part.{LeadsBefore}
use Rattle.flow_solver.proofs.LogLemmas.{leads_before}
use Rattle.flow_solver.proofs.tables.Tables.old_parts.Goals as goal

pub returns-clause-back : goal.returns-clause-back
returns-clause-back c =
    let t = c.self.inside in
    rw c.deref.ensures.value
    (subst (LeadsBefore t.before.log.items) c.self.view_is
    (leads_before _ _ _ c.self.invariant.before_is))
