use Rattle.std.proofs.Common.{◌≡◌, arith}
use Rattle.std.specs.List.{position_or_len}
use Rattle.std.proofs.lemmas.List.{length-drop, take_rest}
use Rattle.dimacs_lines.proofs.WordLemmas.{is_solid, nothing_left}
use Rattle.dimacs_lines.proofs.DigitLemmas.{cut_word, words_after}
use Rattle.dimacs_lines.proofs.words.split_word.Goals as goal

pub returns-then-begin-line-clause-words : goal.returns-then-begin-line-clause-words
returns-then-begin-line-clause-words c =
    let line = c.args.line.now in let begin = c.solid_from-begin.result in
    let place : begin ≡ position_or_len is_solid line = omega (arith, c.solid_from-begin.ensures.place) in
    nothing_left line begin place (omega (arith, length-drop begin line))

pub new-word-requires-clause-bytes : goal.new-word-requires-clause-bytes
new-word-requires-clause-bytes c =
    let digits = c.digits_from-value in let end = c.blank_from-end in
    let cut = cut_word c.args.line.now c.solid_from-begin.result digits.result.0 digits.result.1 end.result.0 c.solid_from-begin.ensures.place (omega arith) digits.ensures.place digits.ensures.digits end.ensures.place end.ensures.within in
    cut.some

pub new-word-requires-clause-digits : goal.new-word-requires-clause-digits
new-word-requires-clause-digits c =
    let digits = c.digits_from-value in let end = c.blank_from-end in
    let cut = cut_word c.args.line.now c.solid_from-begin.result digits.result.0 digits.result.1 end.result.0 c.solid_from-begin.ensures.place (omega arith) digits.ensures.place digits.ensures.digits end.ensures.place end.ensures.within in
    cut.front

pub returns-clause-words : goal.returns-clause-words
returns-clause-words c =
    let line = c.args.line.now in let digits = c.digits_from-value in let end = c.blank_from-end in
    let cut = cut_word line c.solid_from-begin.result digits.result.0 digits.result.1 end.result.0 c.solid_from-begin.ensures.place (omega arith) digits.ensures.place digits.ensures.digits end.ensures.place end.ensures.within in
    rw (c.new-word.ensures, take_rest, ← words_after line digits.result.1 end.result.0 end.result.1 end.ensures.place end.ensures.within end.ensures.next) cut.words_are
