use Rattle.session.proofs.Keeping.{present_answered}
use Rattle.session.proofs.session.Session.verdict.Goals as goal

pub returns-clause-answered : goal.returns-clause-answered
returns-clause-answered g c = rw (← c.self.view_is) (present_answered c.self.inside.history c.self.inside.tables.moment c.self.invariant.kept)
