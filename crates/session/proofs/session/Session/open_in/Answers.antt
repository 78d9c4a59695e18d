use Rattle.session.proofs.session.Session.open_in.Goals as goal

pub returns-clause-instance : goal.returns-clause-instance
returns-clause-instance g c = rw (← c.in_ok-build.ensures) c.over.ensures.instance
