use Rattle.session.proofs.Keeping.{few_arcs}
use Rattle.session.proofs.session.Session.flow.Goals as goal

pub returns-clause-count : goal.returns-clause-count
returns-clause-count g c = rw c.flow.ensures.one_an_arc (few_arcs c.self.inside.history c.self.inside.tables.moment c.self.invariant.kept)
