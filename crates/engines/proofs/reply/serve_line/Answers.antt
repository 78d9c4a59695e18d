use Rattle.session.specs.Step.{state_of}
use Rattle.engines.proofs.ReplyLemmas.{serves_nothing, serves_reply}
use Rattle.engines.proofs.reply.serve_line.Goals as goal

pub returns-in-None-clause-served : goal.returns-in-None-clause-served
returns-in-None-clause-served g c whole is opened holds =
    serves_nothing (state_of c.args.session.now) (state_of c.take_line.new.self) opened whole _ _ (rw c.in-None.is at (c.take_line.ensures.taken whole is opened holds))

pub returns-in-Some-clause-served : goal.returns-in-Some-clause-served
returns-in-Some-clause-served g c whole is opened holds =
    serves_reply c.send_reply.result (state_of c.args.session.now) (state_of c.take_line.new.self) opened whole _ _ _ _
    (rw c.in-Some.is at (c.take_line.ensures.taken whole is opened holds)) c.send_reply.ensures.bytes c.send_reply.ensures.flushed
