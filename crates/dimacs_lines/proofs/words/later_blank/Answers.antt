use Rattle.std.proofs.Common.{length, sym, ◌∙◌, arith}
use Rattle.dimacs_lines.specs.Fields.{is_blank}
use Rattle.dimacs_lines.proofs.PlaceLemmas.{place_from}
use Rattle.dimacs_lines.proofs.words.later_blank.Goals as goal

pub returns-then-is_blank_byte-clause-place : goal.returns-then-is_blank_byte-clause-place
returns-then-is_blank_byte-clause-place c = place_from is_blank c.args.line.now c.args.from c.loop-at.at (omega arith) (omega arith) (c.loop-at.invariant) (λ lt. sym c.is_blank_byte.ensures ∙ c.if-is_blank_byte.true)

pub returns-clause-place : goal.returns-clause-place
returns-clause-place c = place_from is_blank c.args.line.now c.args.from (length c.args.line.now) c.requires (omega arith) (λ k low high. c.loop-at.invariant k low (omega arith)) (λ lt. absurd (omega arith))
