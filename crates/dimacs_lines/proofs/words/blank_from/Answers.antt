use Rattle.std.proofs.Common.{sym, ◌∙◌, arith, rules}
use Rattle.dimacs_lines.specs.Fields.{is_blank}
use Rattle.dimacs_lines.proofs.PlaceLemmas.{place_from}
use Rattle.dimacs_lines.proofs.words.blank_from.Goals as goal

pub returns-then-from-line-clause-place : goal.returns-then-from-line-clause-place
returns-then-from-line-clause-place c = place_from is_blank c.args.line.now c.args.from c.args.from (omega arith) (omega arith) (λ k low high. absurd (omega arith)) (λ lt. absurd (omega arith))

pub returns-then-is_blank_byte-clause-place : goal.returns-then-is_blank_byte-clause-place
returns-then-is_blank_byte-clause-place c = place_from is_blank c.args.line.now c.args.from c.args.from (omega arith) (omega arith) (λ k low high. absurd (omega arith)) (λ lt. sym c.is_blank_byte.ensures ∙ c.if-is_blank_byte.true)

pub returns-clause-next : goal.returns-clause-next
returns-clause-next c = search rules

pub returns-then-is_blank_byte-clause-next : goal.returns-then-is_blank_byte-clause-next
returns-then-is_blank_byte-clause-next c = search rules
