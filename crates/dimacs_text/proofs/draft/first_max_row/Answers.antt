use Rattle.std.proofs.Common.{[], w64, arith, rules}
use Rattle.std.proofs.lemmas.Int.{to_z_pos}
use Rattle.dimacs_lines.specs.Fields.{IsNode}
use Rattle.dimacs_text.proofs.PlainLemmas.{max_said}
use Rattle.dimacs_text.proofs.draft.first_max_row.Goals as goal

pub returns : goal.returns
returns c =
    let tail = c.in_ok-tail in let head = c.in_ok-head in let cap = c.in_ok-cap in
    let tail_in : IsNode c.args.size.nodes tail.tail = search rules in
    let head_in : IsNode c.args.size.nodes head.head = search rules in
    rw (to_z_pos w64 cap.cap (omega arith))
    (max_said c.args.size.nodes [] c.args.text.now tail.tail head.head cap.cap c.in_ok-used.used tail.end head.end cap.end tail.ensures.word head.ensures.word cap.ensures.word c.in_ok-used.ensures tail_in head_in c.if-cap-gt-CAP_LIMIT.false)
