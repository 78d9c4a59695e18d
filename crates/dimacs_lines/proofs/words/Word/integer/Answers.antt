use Rattle.std.proofs.Common.{◌<◌, ◌^◌, sym, w64, arith, rules}
use Rattle.std.proofs.lemmas.Int.{to_z_pos}
use Rattle.dimacs_lines.proofs.DigitLemmas.{not_negative}
use Rattle.dimacs_lines.proofs.words.Word.integer.Goals as goal

pub returns-in-Some : goal.returns-in-Some
returns-in-Some c =
    let low : c.in-Some.value < 10 ^ 18 = c.in-Some.ensures.below in
    rw (to_z_pos w64 c.in-Some.value (omega arith)) (sym (not_negative c.args.self.now c.in-Some.value (sym c.in-Some.ensures.value)))

pub returns-in-None : goal.returns-in-None
returns-in-None c = search rules
