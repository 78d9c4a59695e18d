use Rattle.session.proofs.session.Session.open_from.Goals as goal

pub returns-clause-instance : goal.returns-clause-instance
returns-clause-instance c = rw (← c.in_ok-build_from.ensures) c.over.ensures.instance
