use Rattle.std.proofs.Common.{◌-◌}
use Rattle.dimacs_io.specs.Device.{text_of}
use Rattle.runs.proofs.SourceLemmas.{UsesSource-none, UsesSource-whole}
use Rattle.session.specs.Step.{state_of}
use Rattle.engines.proofs.OpeningLemmas.{unopened, unopened_sink}
use Rattle.engines.proofs.SessionLemmas.{FlushesOnDevices-served, FlushesOnDevices-unopened, SessionOnDevices-served, SessionOnDevices-unopened}
use Rattle.engines.proofs.interaction.run_session.Goals as goal

-- ---- no session was opened

pub returns-in-Err-clause-session : goal.returns-in-Err-clause-session
returns-in-Err-clause-session g c = SessionOnDevices-unopened c.in-Err.end c.args.extra _ _ _ _ _ c.in-Err.ensures.ended.ended

pub returns-in-Err-clause-script : goal.returns-in-Err-clause-script
returns-in-Err-clause-script g c =
    let ends = c.in-Err.ensures.ended.ended in
    UsesSource-none g.C.Source _ _ c.args.script.now (unopened _ _ c.in-Err.end ends).1 (unopened _ _ c.in-Err.end ends).0

pub returns-in-Err-clause-out : goal.returns-in-Err-clause-out
returns-in-Err-clause-out g c = unopened_sink g.O.Sink _ _ c.in-Err.end c.args.out.now c.in-Err.ensures.ended.ended

pub returns-in-Err-clause-out_flushed : goal.returns-in-Err-clause-out_flushed
returns-in-Err-clause-out_flushed g c =
    let script = c.args.script.now in
    FlushesOnDevices-unopened c.in-Err.end _ _ (text_of (g.C.Source.remaining script) (g.C.Source.given script) (g.C.Source.given script))
    (g.C.Source.most_left script - g.C.Source.most_left script) (g.O.Sink.flushes c.args.out.now) c.in-Err.ensures.ended.ended

-- ---- the session was served

pub returns-in-Ok-clause-session : goal.returns-in-Ok-clause-session
returns-in-Ok-clause-session g c =
    let begun = c.in-Ok.ensures.opened.opened in
    SessionOnDevices-served g.C.Source g.O.Sink c.serve_session.result c.args.extra (state_of c.in-Ok.session) _ _ _ _
    begun.problem _ _ begun.problem_read begun.opens c.serve_session.ensures.served

pub returns-in-Ok-clause-problem : goal.returns-in-Ok-clause-problem
returns-in-Ok-clause-problem g c = UsesSource-whole g.P.Source _ _ _ _ c.serve_session.ensures.no_problem c.in-Ok.ensures.opened.source

pub returns-in-Ok-clause-out_flushed : goal.returns-in-Ok-clause-out_flushed
returns-in-Ok-clause-out_flushed g c =
    FlushesOnDevices-served g.C.Source g.O.Sink c.serve_session.result c.args.extra (state_of c.in-Ok.session) _ _ _ _ c.serve_session.ensures.served
