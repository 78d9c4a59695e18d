use Rattle.std.proofs.Common.{[], w64, arith, rules}
use Rattle.std.proofs.lemmas.Int.{to_z-of_z, to_z_pos}
use Rattle.dimacs_lines.specs.Fields.{IsNode}
use Rattle.dimacs_text.specs.Lawful.{IsWithin}
use Rattle.dimacs_text.specs.declared.problem.TheConstants.{COST_LIMIT}
use Rattle.dimacs_text.proofs.PlainLemmas.{min_said}
use Rattle.dimacs_text.proofs.draft.first_min_row.Goals as goal

pub returns : goal.returns
returns c =
    let tail = c.in_ok-tail in let head = c.in_ok-head in let low = c.in_ok-low in let cap = c.in_ok-cap in let cost = c.in_ok-cost in
    let tail_in : IsNode c.args.size.nodes tail.tail = search rules in
    let head_in : IsNode c.args.size.nodes head.head = search rules in
    let within : IsWithin COST_LIMIT cost.cost = search rules in
    rw (to_z-of_z w64 cost.cost (search rules), to_z_pos w64 low.low (omega arith), to_z_pos w64 cap.cap (omega arith))
    (min_said c.args.size.nodes [] c.args.text.now tail.tail head.head low.low cap.cap c.in_ok-used.used cost.cost tail.end head.end low.end cap.end cost.end tail.ensures.word head.ensures.word low.ensures.word cap.ensures.word cost.ensures.word
    c.in_ok-used.ensures tail_in head_in c.if-low-cap.false c.if-cap-gt-CAP_LIMIT.false within)
