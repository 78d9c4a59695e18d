use Rattle.std.proofs.Common.{length, not, ap, sym, ◌∙◌, arith}
use Rattle.dimacs_lines.proofs.PlaceLemmas.{place_from}
use Rattle.dimacs_lines.proofs.WordLemmas.{is_solid}
use Rattle.dimacs_lines.proofs.words.solid_from.Goals as goal

pub returns-then-not-is_blank_byte-clause-place : goal.returns-then-not-is_blank_byte-clause-place
returns-then-not-is_blank_byte-clause-place c = place_from is_solid c.args.line.now c.args.from c.loop-at.at (omega arith) (omega arith) (λ k low high. ap not (c.loop-at.invariant k low high)) (λ lt. ap not (sym c.is_blank_byte.ensures ∙ c.if-not-is_blank_byte.true))

pub returns-clause-place : goal.returns-clause-place
returns-clause-place c = place_from is_solid c.args.line.now c.args.from (length c.args.line.now) c.requires (omega arith) (λ k low high. ap not (c.loop-at.invariant k low (omega arith))) (λ lt. absurd (omega arith))
