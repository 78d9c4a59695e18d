use Rattle.std.proofs.Common.{◌≡◌, get_or, rules}
use Rattle.dimacs_lines.proofs.FrontLemmas.{line_ends, blanks_end}
use Rattle.dimacs_lines.proofs.front.line_end.Goals as goal

pub returns-then-text-from-eq10 : goal.returns-then-text-from-eq10
returns-then-text-from-eq10 c =
    let feed : get_or c.args.text.now c.args.from 0 ≡ 10 = search rules in
    line_ends c.args.text.now c.args.from c.if-from-text.true feed

pub returns-then-text-end-eq10 : goal.returns-then-text-end-eq10
returns-then-text-end-eq10 c =
    let end = c.later_word-end.result in
    let feed : get_or c.args.text.now end 0 ≡ 10 = search rules in
    blanks_end c.args.text.now c.args.from end c.later_word-end.ensures.place c.if-end-text.true feed
