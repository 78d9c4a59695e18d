use Rattle.std.proofs.Common.{ap, sym, ◌∙◌}
use Rattle.session.specs.Step.{state_of}
use Rattle.session.proofs.Stepping.{group_refused}
use Rattle.session.proofs.session.Session.step_group.Goals as goal

pub returns-in-Err-clause-step : goal.returns-in-Err-clause-step
returns-in-Err-clause-step g c =
    let same = ap state_of c.in-Err.ensures.refused in
    rw c.into.ensures
    (group_refused c.args.group.now (state_of c.args.self.now) (state_of c.apply_group.new.self) c.in-Err.refusal (sym c.fault.ensures ∙ c.in_default.is) same
    (rw (c.edits-2.ensures.edits) at c.in-Err.ensures.cause))
