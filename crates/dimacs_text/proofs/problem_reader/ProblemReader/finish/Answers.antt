use Rattle.std.proofs.lemmas.Result.{err_from_is_err_and}
use Rattle.dimacs_text.proofs.ReadLemmas.{reads_ok, reads_end, reads_fault}
use Rattle.dimacs_text.proofs.problem_reader.ProblemReader.finish.Goals as goal

pub returns-in_err-draft-clause-text : goal.returns-in_err-draft-clause-text
returns-in_err-draft-clause-text c =
    let p = err_from_is_err_and c.from_residual.result c.from_residual.ensures.1 in
    rw (p.1, p.2) (λ text stands. reads_fault c.in_err-draft.field-0.0 text (c.in_err-draft.ensures.text tt text stands))

pub returns-in-Ok-clause-text : goal.returns-in-Ok-clause-text
returns-in-Ok-clause-text c = λ text stands.
    let done = c.in_ok-draft.ensures.text tt text stands in
    reads_ok text c.in_ok-draft.draft c.in-Ok.problem done.0 done.1 c.in-Ok.ensures

pub returns-in-Err-clause-text : goal.returns-in-Err-clause-text
returns-in-Err-clause-text c = λ text stands.
    let done = c.in_ok-draft.ensures.text tt text stands in
    rw (c.at_line.ensures, c.from.ensures) (reads_end text c.in_ok-draft.draft c.in-Err.fault c.in_ok-draft.lines done.0 done.1 done.2 c.in-Err.ensures)
