use Rattle.std.proofs.Common.{ap}
use Rattle.session.specs.Step.{state_of}
use Rattle.session.proofs.Stepping.{edit_refused}
use Rattle.session.proofs.session.Session.step_by_edit.Goals as goal

pub returns-in-Err-clause-step : goal.returns-in-Err-clause-step
returns-in-Err-clause-step g c =
    let same = ap state_of c.in-Err.ensures.refused in
    rw c.into.ensures (edit_refused c.args.edit.now (state_of c.args.self.now) (state_of c.apply.new.self) c.in-Err.refusal same c.in-Err.ensures.cause)
