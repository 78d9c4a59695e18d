use Rattle.std.proofs.Common.{◌∙◌, arith}
use Rattle.runs.proofs.SourceLemmas.{UsesSource-whole}
use Rattle.engines.proofs.OpeningLemmas.{unopened_flushes, unopened_sink}
use Rattle.engines.proofs.SolveLemmas.{SolveOnDevices-unopened, SolveOnDevices-stopped, SolveOnDevices-solved, told_counts}
use Rattle.engines.proofs.solving.solve.Goals as goal

pub returns-in-Err-clause-solve : goal.returns-in-Err-clause-solve
returns-in-Err-clause-solve g c = SolveOnDevices-unopened c.in-Err.end c.args.proof _ _ _ c.in-Err.ensures.ended.ended

pub returns-in-Err-clause-out : goal.returns-in-Err-clause-out
returns-in-Err-clause-out g c = unopened_sink g.O.Sink _ _ c.in-Err.end c.args.out.now c.in-Err.ensures.ended.ended

pub returns-in-Err-clause-out_flushed : goal.returns-in-Err-clause-out_flushed
returns-in-Err-clause-out_flushed g c = unopened_flushes _ _ c.in-Err.end _ c.in-Err.ensures.ended.ended

pub returns-in-Err-tell_solution-clause-solve : goal.returns-in-Err-tell_solution-clause-solve
returns-in-Err-tell_solution-clause-solve g c =
    let begun = c.in-Ok.ensures.opened.opened in
    SolveOnDevices-stopped begun.problem c.in-Ok.session.moments.present c.args.proof _ _ _ _ begun.problem_read begun.opens.settled c.in-Err-tell_solution.ensures.bytes

pub returns-in-Ok-tell_solution-clause-solve : goal.returns-in-Ok-tell_solution-clause-solve
returns-in-Ok-tell_solution-clause-solve g c =
    let begun = c.in-Ok.ensures.opened.opened in
    let told = SolveOnDevices-solved begun.problem c.in-Ok.session.moments.present c.args.proof _ _ _ _ begun.problem_read begun.opens.settled c.in-Ok-tell_solution.ensures.bytes in
    rw (c.end_by-end.ensures, c.verdict.ensures.value) told

pub returns-in-Ok-tell_solution-clause-input : goal.returns-in-Ok-tell_solution-clause-input
returns-in-Ok-tell_solution-clause-input g c =
    rw c.end_by-end.ensures (UsesSource-whole g.P.Source _ _ _ _ (told_counts c.verdict.result).3 c.in-Ok.ensures.opened.source)

pub returns-in-Ok-tell_solution-clause-out : goal.returns-in-Ok-tell_solution-clause-out
returns-in-Ok-tell_solution-clause-out g c = rw c.end_by-end.ensures (record {
  failed = omega (arith, c.in-Ok-tell_solution.ensures.failed, (told_counts c.verdict.result).0);
  last = c.in-Ok-tell_solution.ensures.last ∙ (told_counts c.verdict.result).2 _;
})

pub returns-in-Ok-tell_solution-clause-out_flushed : goal.returns-in-Ok-tell_solution-clause-out_flushed
returns-in-Ok-tell_solution-clause-out_flushed g c = rw c.end_by-end.ensures (rw (told_counts c.verdict.result).1 c.in-Ok-tell_solution.ensures.flushed)
