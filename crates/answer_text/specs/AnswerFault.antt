-- The faults of answer texts: their numbers, and the fault of a line as one of them.
use Rattle.std.specs.Prelude.{ℕ, Result}
use Rattle.dimacs_lines.specs.declared.fault.LineFault.{LineFault}
use Rattle.dimacs_lines.specs.Fault.{number_of as number_in_line}
use Rattle.dimacs_lines.specs.Checks.{held_as}
use Rattle.answer_text.specs.declared.answer_fault.AnswerFault.{AnswerFault}
use Rattle.answer_text.specs.declared.answer_fault.AnswerFault.TheVariants as fault

abbrev pub number_of : AnswerFault → ℕ
number_of (fault.Line e) = number_in_line e
number_of fault.OutOfOrder = 40

-- a check of a line by itself
abbrev pub in_answer_line : {A : Type 0} → Result A LineFault → Result A AnswerFault
in_answer_line read = held_as (λ e. fault.Line e) read
