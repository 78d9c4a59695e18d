-- What a reader of answer texts stands for.
use Rattle.std.specs.Prelude.{◌≡◌, ℕ, List, Result, Ok, Err}
use Rattle.dimacs_lines.specs.declared.fault.TextFault.{TextFault}
use Rattle.dimacs_lines.specs.declared.fault.TextFault.TheVariants as text_fault
use Rattle.dimacs_lines.specs.Lines.{Line}
use Rattle.dimacs_lines.specs.Reader as generic
use Rattle.dimacs_lines.specs.Stream.{StopsWell}
use Rattle.answer_text.specs.declared.answer.Answer.{Answer}
use Rattle.answer_text.specs.declared.answer_draft.AnswerDraft.{AnswerDraft}
use Rattle.answer_text.specs.declared.answer_reader.AnswerReader.{AnswerReader}
use Rattle.answer_text.specs.Answer.{said_of, answer_rule, answers}

-- the draft holds what the lines of an answer to a problem of this size say
abbrev pub HoldsAnswer : ℕ → ℕ → List Line → AnswerDraft → Type 0
HoldsAnswer nodes arcs before draft = draft ≡ record { nodes = nodes; arcs = arcs; said = said_of before }

-- the reader holds what reading takes from the text
abbrev pub StandsForAnswer : ℕ → ℕ → AnswerReader → List ℕ → Type 0
StandsForAnswer nodes arcs reader text = generic.StandsFor (answer_rule nodes arcs) (HoldsAnswer nodes arcs) reader.reader text

-- after a piece: memory aside, the fault that is decided or none, and the reader stands for the text
abbrev pub FeedsAnswer : ℕ → ℕ → Result (Unit {0}) TextFault → AnswerReader → List ℕ → Type 0
FeedsAnswer nodes arcs result reader text = generic.Feeds (answer_rule nodes arcs) (HoldsAnswer nodes arcs) result reader.reader text

-- at the end: what reading gives; memory is wanted for a last line alone, where none is faulty
abbrev pub FinishesAnswer : ℕ → ℕ → Result Answer TextFault → List ℕ → Type 0
FinishesAnswer nodes arcs (Ok answer) text = answers nodes arcs text ≡ Ok answer
FinishesAnswer nodes arcs (Err text_fault.Memory) text = StopsWell (answer_rule nodes arcs) text
FinishesAnswer nodes arcs (Err (text_fault.Fault number line)) text = answers nodes arcs text ≡ Err (text_fault.Fault number line)

-- the reader answered this, and answers it from then on
abbrev pub AnswerHasFailed : AnswerReader → TextFault → Type 0
AnswerHasFailed reader fault = generic.HasFailed reader.reader fault
