use Rattle.std.proofs.Common.{sym, ◌∙◌}
use Rattle.dimacs_lines.proofs.EndLemmas as law
use Rattle.dimacs_lines.proofs.reader.TextReader.finish.Goals as goal

pub returns-in-Some-clause-text : goal.returns-in-Some-clause-text
returns-in-Some-clause-text g c = λ setting text stands. law.finishes_failed (g.T.LineTaker.rule setting) (g.T.LineTaker.holds setting) c.in-Some.failure text (rw c.in-Some.is at stands)

pub returns-then-not-begun-clause-text : goal.returns-then-not-begun-clause-text
returns-then-not-begun-clause-text g c = λ setting text stands.
    law.ended_all (g.T.LineTaker.rule setting) (g.T.LineTaker.holds setting) text c.args.self.lines c.args.self.taker c.args.self.cutter (rw c.in_default.is at stands) (sym c.begun.ensures.begun ∙ c.if-not-begun.true)

pub returns-in-Ok-clause-text : goal.returns-in-Ok-clause-text
returns-in-Ok-clause-text g c = λ setting text stands.
    rw c.saturating_add-line.ensures (law.last_taken (g.T.LineTaker.rule setting) (g.T.LineTaker.holds setting) text c.args.self.lines c.args.self.taker c.args.self.cutter (rw c.in_default.is at stands) (sym c.begun.ensures.begun ∙ c.if-not-begun.false) c.take_cut.new.taker (λ before held. c.in-Ok.ensures setting before held))

pub returns-in-Err-clause-text : goal.returns-in-Err-clause-text
returns-in-Err-clause-text g c = λ setting text stands.
    rw (c.at_line.ensures, c.saturating_add-line.ensures) (law.last_fails (g.T.LineTaker.rule setting) (g.T.LineTaker.holds setting) text c.args.self.lines c.args.self.taker c.args.self.cutter (rw c.in_default.is at stands) (sym c.begun.ensures.begun ∙ c.if-not-begun.false) c.in-Err.error (λ before held. c.in-Err.ensures setting before held))
