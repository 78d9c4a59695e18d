use Rattle.session.proofs.Keeping.{present_answered}
use Rattle.session.proofs.session.Session.prepare.Goals as goal

pub prepare-requires : goal.prepare-requires
prepare-requires g c = (present_answered c.self.inside.history c.self.inside.tables.moment c.self.invariant.kept).certified
