use Rattle.std.proofs.Common.{rules}
use Rattle.session.proofs.session.Session.step.Goals as goal

pub returns-in-End-clause-step : goal.returns-in-End-clause-step
returns-in-End-clause-step g c = search rules
