use Rattle.std.proofs.lemmas.Result.{err_from_is_err_and}
use Rattle.dimacs_lines.specs.Lines.{lines_of}
use Rattle.answer_text.proofs.AnswerLemmas as law
use Rattle.answer_text.proofs.answer_reader.AnswerReader.finish.Goals as goal

pub returns-in_err-draft-clause-text : goal.returns-in_err-draft-clause-text
returns-in_err-draft-clause-text c =
    let p = err_from_is_err_and c.from_residual.result c.from_residual.ensures.1 in
    rw (p.1, p.2) (λ nodes arcs text stands. law.answers_fault nodes arcs text c.in_err-draft.field-0.0 (c.in_err-draft.ensures.text (nodes, arcs) text stands))

pub returns-in-Ok-clause-text : goal.returns-in-Ok-clause-text
returns-in-Ok-clause-text c = λ nodes arcs text stands.
    let done = c.in_ok-draft.ensures.text (nodes, arcs) text stands in
    law.answers_ok nodes arcs text c.in_ok-draft.draft done.0 done.1 c.in-Ok.answer c.in-Ok.ensures.value

pub returns-in-Err-clause-text : goal.returns-in-Err-clause-text
returns-in-Err-clause-text c = λ nodes arcs text stands.
    let done = c.in_ok-draft.ensures.text (nodes, arcs) text stands in
    rw (c.at_line.ensures, c.from.ensures) (law.answers_end nodes arcs text c.in_ok-draft.draft done.0 done.1 c.in-Err.fault c.in_ok-draft.lines done.2 c.in-Err.ensures.value)

pub returns-in-Ok-clause-fits : goal.returns-in-Ok-clause-fits
returns-in-Ok-clause-fits c = λ nodes arcs text stands.
    let done = c.in_ok-draft.ensures.text (nodes, arcs) text stands in
    law.answer_fits nodes arcs (lines_of text) c.in_ok-draft.draft c.in-Ok.answer done.1 c.in-Ok.ensures.value c.in-Ok.ensures.ends
