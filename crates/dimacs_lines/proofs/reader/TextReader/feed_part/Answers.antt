use Rattle.std.proofs.Common.{rules}
use Rattle.dimacs_lines.proofs.PartLemmas.{used_within}
use Rattle.dimacs_lines.proofs.StreamLemmas as law
use Rattle.dimacs_lines.proofs.reader.TextReader.feed_part.Goals as goal

pub returns-then-complete-clause-used : goal.returns-then-complete-clause-used
returns-then-complete-clause-used g c = used_within c.args.piece.now c.in-Ok.used c.requires.piece c.in-Ok.ensures.used

pub returns-then-complete-clause-text : goal.returns-then-complete-clause-text
returns-then-complete-clause-text g c =
    let old = c.args.self.now in let part = c.in-Ok.ensures in
    λ setting text stands.
    let taken = law.part_taken (g.T.LineTaker.rule setting) (g.T.LineTaker.holds setting) text c.args.piece.now old.cutter c.take_part.new.cutter old.taker c.take_part.new.taker old.lines c.in-Ok.used c.in-Ok.complete c.requires.piece part.used part.complete (λ before held. c.in-Ok.ensures.taken setting before held) (rw c.requires.working at stands) in
    (taken.0, rw (c.requires.working, c.saturating_add-line.ensures) (rw c.if-complete.true at taken.1))

pub returns-else-complete-clause-used : goal.returns-else-complete-clause-used
returns-else-complete-clause-used g c = used_within c.args.piece.now c.in-Ok.used c.requires.piece c.in-Ok.ensures.used

pub returns-else-complete-clause-text : goal.returns-else-complete-clause-text
returns-else-complete-clause-text g c =
    let old = c.args.self.now in let part = c.in-Ok.ensures in
    λ setting text stands.
    let taken = law.part_taken (g.T.LineTaker.rule setting) (g.T.LineTaker.holds setting) text c.args.piece.now old.cutter c.take_part.new.cutter old.taker c.take_part.new.taker old.lines c.in-Ok.used c.in-Ok.complete c.requires.piece part.used part.complete (λ before held. c.in-Ok.ensures.taken setting before held) (rw c.requires.working at stands) in
    (taken.0, rw c.requires.working (rw c.if-complete.false at taken.1))

pub returns-in-Err-clause-text : goal.returns-in-Err-clause-text
returns-in-Err-clause-text g c =
    let old = c.args.self.now in
    λ setting text stands.
    rw (c.at_line-failure.ensures, c.saturating_add-line.ensures) (law.piece_failed (g.T.LineTaker.rule setting) (g.T.LineTaker.holds setting) c.in-Err.error text c.args.piece.now old.cutter old.taker old.lines c.requires.piece (λ before held. c.in-Err.ensures.taken setting before held) (rw c.requires.working at stands))

pub returns-in-Err-clause-err : goal.returns-in-Err-clause-err
returns-in-Err-clause-err g c = search rules
