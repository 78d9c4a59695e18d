-- What a reader's answer says of the text that has come.
use Rattle.std.proofs.Common.{ℕ, Bool, List, Option, Result, Ok, Err, inl, inr}
use Rattle.dimacs_lines.specs.declared.fault.TextFault.{TextFault}
use Rattle.dimacs_lines.specs.declared.fault.TextFault.TheVariants as text_fault
use Rattle.dimacs_lines.specs.declared.reader.TextReader.{TextReader}
use Rattle.dimacs_lines.specs.Lines.{Line}
use Rattle.dimacs_lines.specs.Reader.{Feeds, StandsFor}
use Rattle.dimacs_lines.specs.Stream.{Rule, decided}
use Rattle.dimacs_text.specs.Reading.{ProblemValue, reads}
use Rattle.answer_text.specs.Answer.{answers}
use Rattle.answer_text.specs.declared.answer.Answer.{Answer}
use Rattle.dimacs_text.specs.ProblemReader as problem
use Rattle.answer_text.specs.AnswerReader as answer
use Rattle.runs.specs.declared.read.ReadError.TheVariants as read_error
use Rattle.runs.specs.Reading.{FinishesText, HasEnded, HasTaken, ReadsText}

pub piece_taken : {T : Type 0} (rule : Rule) (holds : List Line → T → Type 0) (result : Result (Unit {0}) TextFault) (reader : TextReader T) (text : List ℕ)
    → Feeds rule holds result reader text → HasTaken (decided rule) result text (StandsFor rule holds reader text)
piece_taken rule holds (Ok _) reader text fed = fed
piece_taken rule holds (Err text_fault.Memory) reader text fed = tt
piece_taken rule holds (Err (text_fault.Fault number line)) reader text fed = fed.0

pub problem_finished : (result : Result ProblemValue TextFault) (text : List ℕ) → problem.Finishes result text → FinishesText reads result text
problem_finished (Ok _) text is = is
problem_finished (Err text_fault.Memory) text is = tt
problem_finished (Err (text_fault.Fault number line)) text is = is

pub answer_finished : (nodes arcs : ℕ) (result : Result Answer TextFault) (text : List ℕ) → answer.FinishesAnswer nodes arcs result text → FinishesText (answers nodes arcs) result text
answer_finished nodes arcs (Ok _) text is = is
answer_finished nodes arcs (Err text_fault.Memory) text is = tt
answer_finished nodes arcs (Err (text_fault.Fault number line)) text is = is

module _ {X : Type 0} (fault : List ℕ → Option TextFault) (content : List ℕ → Result X TextFault) where
  pub fault_decided : (e : TextFault) (given : List ℕ) (rest : Option (List ℕ)) (ended : Bool) (stands : Type 0) → HasTaken fault (Err e) given stands
      → ReadsText fault content (Err (read_error.Text e)) given rest ended
  fault_decided text_fault.Memory given rest ended stands taken = tt
  fault_decided (text_fault.Fault number line) given rest ended stands taken = inl taken

  pub fault_at_end : (e : TextFault) (given : List ℕ) (rest : Option (List ℕ)) (ended : Bool) → HasEnded rest ended → FinishesText content (Err e) given
      → ReadsText fault content (Err (read_error.Text e)) given rest ended
  fault_at_end text_fault.Memory given rest ended at_end is = tt
  fault_at_end (text_fault.Fault number line) given rest ended at_end is = inr (at_end, is)
