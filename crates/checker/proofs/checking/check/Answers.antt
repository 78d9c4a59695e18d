use Rattle.std.proofs.Common.{Ok, Err, ap, length, rules}
use Rattle.checker.proofs.CheckLemmas.{AreJudged, CheckOnDevices-problem, CheckOnDevices-answer, CheckOnDevices-stopped, ReadsKnown-sized}
use Rattle.runs.proofs.SourceLemmas.{UsesSink-answer, UsesSink-problem, UsesSource-answer, UsesSource-no_answer, UsesSource-problem, UsesSource-problem_before, UsesSource-read}
use Rattle.checker.proofs.checking.check.Goals as goal

pub returns-in-Err-clause-check : goal.returns-in-Err-clause-check
returns-in-Err-clause-check g c = rw c.end.ensures (CheckOnDevices-problem c.in-Err.error _ _ _ _ _ c.in-Err.ensures.known)

pub returns-in-Err-read_answer-clause-check : goal.returns-in-Err-read_answer-clause-check
returns-in-Err-read_answer-clause-check g c =
    let sized = ReadsKnown-sized _ _ c.in-Ok.problem.nodes (length c.in-Ok.problem.arcs) c.nodes.ensures.value (ap length c.arcs.ensures) (Err c.in-Err-read_answer.error) _ _ c.in-Err-read_answer.ensures.known in
    rw c.end-in-Err-read_answer.ensures (CheckOnDevices-answer c.in-Err-read_answer.error c.in-Ok.problem _ _ _ _ _ c.in-Ok.ensures.known sized)

pub returns-clause-check : goal.returns-clause-check
returns-clause-check g c =
    let sized = ReadsKnown-sized _ _ c.in-Ok.problem.nodes (length c.in-Ok.problem.arcs) c.nodes.ensures.value (ap length c.arcs.ensures) (Ok c.in-Ok-read_answer.answer) _ _ c.in-Ok-read_answer.ensures.known in
    let judged : AreJudged c.in-Ok-is_right.right _ _ _ _ =
    record { problem = c.in-Ok.problem; problem_read = c.in-Ok.ensures.known; answer = c.in-Ok-read_answer.answer; answer_read = sized; exact = c.in-Ok-is_right.ensures.exact } in
    CheckOnDevices-stopped c.in-Ok-is_right.right _ _ _ _ _ _ judged c.in-Err-write_verdict.ensures.bytes

pub returns-in-Err-is_right-clause-check : goal.returns-in-Err-is_right-clause-check
returns-in-Err-is_right-clause-check g c = search rules

-- ---- what the run did to its devices

pub returns-in-Err-clause-problem : goal.returns-in-Err-clause-problem
returns-in-Err-clause-problem g c =
    rw c.end.ensures (UsesSource-problem g.P.Source c.in-Err.error _ _ c.in-Err.ensures.grows c.in-Err.ensures.failed c.in-Err.ensures.last)

pub returns-in-Err-clause-answer : goal.returns-in-Err-clause-answer
returns-in-Err-clause-answer g c = rw c.end.ensures (UsesSource-no_answer g.A.Source c.in-Err.error _)

pub returns-in-Err-clause-out : goal.returns-in-Err-clause-out
returns-in-Err-clause-out g c = rw c.end.ensures (UsesSink-problem g.O.Sink c.in-Err.error _)

pub returns-in-Err-read_answer-clause-problem : goal.returns-in-Err-read_answer-clause-problem
returns-in-Err-read_answer-clause-problem g c =
    rw c.end-in-Err-read_answer.ensures (UsesSource-problem_before g.P.Source c.in-Err-read_answer.error _ _
    (UsesSource-read g.P.Source _ _ c.in-Ok.ensures.grows c.in-Ok.ensures.failed))

pub returns-in-Err-read_answer-clause-answer : goal.returns-in-Err-read_answer-clause-answer
returns-in-Err-read_answer-clause-answer g c =
    let read = c.in-Err-read_answer.ensures in
    rw c.end-in-Err-read_answer.ensures (UsesSource-answer g.A.Source c.in-Err-read_answer.error _ _ read.grows read.failed read.last)

pub returns-in-Err-read_answer-clause-out : goal.returns-in-Err-read_answer-clause-out
returns-in-Err-read_answer-clause-out g c = rw c.end-in-Err-read_answer.ensures (UsesSink-answer g.O.Sink c.in-Err-read_answer.error _)
