use Rattle.dimacs_lines.specs.Reader.{StandsFor}
use Rattle.std.proofs.Common.{◌++◌}
use Rattle.std.proofs.lemmas.Result.{err_from_is_err_and}
use Rattle.dimacs_lines.proofs.StreamLemmas.{ends_later, fed_more, tells_failed, well_told}
use Rattle.dimacs_lines.proofs.ReaderLemmas.{feeds_failed}
use Rattle.dimacs_lines.proofs.reader.TextReader.feed.Goals as goal

pub returns-in-Some-clause-text : goal.returns-in-Some-clause-text
returns-in-Some-clause-text g c = λ setting text stands.
    feeds_failed (g.T.LineTaker.rule setting) (g.T.LineTaker.holds setting) c.in-Some.failure c.args.self.now text c.args.piece.now c.in-Some.is (tells_failed (g.T.LineTaker.rule setting) c.in-Some.failure text c.args.piece.now (rw c.in-Some.is at stands))

pub returns-in-Some-clause-memory : goal.returns-in-Some-clause-memory
returns-in-Some-clause-memory g c = λ setting text stands is.
    let rule = g.T.LineTaker.rule setting in
    well_told rule c.in-Some.failure text c.args.piece.now (tells_failed rule c.in-Some.failure text c.args.piece.now (rw c.in-Some.is at stands)) is

pub returns-in_err-used-clause-memory : goal.returns-in_err-used-clause-memory
returns-in_err-used-clause-memory g c =
    let p = err_from_is_err_and c.from_residual.result c.from_residual.ensures.1 in
    let before = c.loop-rest.invariant in let rest = c.loop-rest.rest.now in
    rw (p.1, p.2) (λ setting text stands is.
    let rule = g.T.LineTaker.rule setting in
    ends_later rule text c.args.piece.now before.0 rest before.1 (well_told rule c.in_err-used.field-0.0 (text ++ before.0) rest (c.in_err-used.ensures.text setting (text ++ before.0) (before.2 setting text stands).1) is))

pub loop-rest-preserved : goal.loop-rest-preserved
loop-rest-preserved g c =
    let before = c.loop-rest.invariant in
    let fed = fed_more g.T.LineTaker.rule (λ (setting : g.T.LineTaker.Setting). StandsFor (g.T.LineTaker.rule setting) (g.T.LineTaker.holds setting)) c.args.piece.now before.0 c.loop-rest.rest.now c.in_ok-used.used c.args.self.now c.loop-rest.self c.feed_part.new.self before.1 before.2 c.in_ok-used.ensures.text in
    (fed.0, fed.1, fed.2, c.in_ok-used.ensures.working)
