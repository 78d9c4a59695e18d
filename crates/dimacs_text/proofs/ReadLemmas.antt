-- A problem text is read as its taker and its end say.
use Rattle.std.proofs.Common.{◌≡◌, ℕ, List, [], Option, Some, None, IfSome, Result, Ok, Err, length, refl, ◌∙◌}
use Rattle.dimacs_text.specs.declared.problem_fault.ProblemFault.{ProblemFault}
use Rattle.dimacs_lines.specs.declared.fault.LineError.{LineError}
use Rattle.dimacs_lines.specs.declared.fault.TextFault.{TextFault}
use Rattle.dimacs_lines.specs.declared.fault.TextFault.TheVariants as text_fault
use Rattle.dimacs_text.specs.ProblemFault.{number_of}
use Rattle.std.specs.List.{before_first}
use Rattle.dimacs_lines.specs.Cut.{IsFront}
use Rattle.dimacs_lines.specs.Lines.{Line, is_line_feed, lines_of}
use Rattle.dimacs_text.specs.Problem.{Parsed, parsed_of}
use Rattle.dimacs_text.specs.Reading.{ProblemValue, ending, Takes, TakesFirst, problem_rule, reads}
use Rattle.dimacs_text.proofs.ProblemLemmas.{parsed_of_push}
use Rattle.dimacs_lines.specs.Stream.{counted, first_fault, TakesLine, TakesFront}
use Rattle.dimacs_lines.specs.Reader as generic
use Rattle.dimacs_text.specs.ProblemReader.{holds, Finishes}

pub line_taken : (result : Result (Unit {0}) LineError) (old new : Parsed) (before : List Line) (line : Line) → Takes result line old new → old ≡ parsed_of before → TakesLine problem_rule holds result before line new
line_taken (Ok x) old new before line taken held = rw (← held) (taken.0, taken.1 ∙ rw (parsed_of_push, ← held) refl)
line_taken (Err e) old new before line taken held = rw (← held) taken

pub first_front : (result : Option ℕ) (text : List ℕ) (old new : Parsed) → TakesFirst result text old new → IfSome result (λ used. IsFront used text)
first_front None text old new taken = tt
first_front (Some used) text old new taken = taken.0

pub front_taken : (result : Option ℕ) (old new : Parsed) (before : List Line) (text : List ℕ) → TakesFirst result text old new → old ≡ parsed_of before → TakesFront problem_rule holds result before text new
front_taken None old new before text taken held = taken ∙ held
front_taken (Some used) old new before text taken held = line_taken (Ok tt) old new before (before_first is_line_feed text) taken.1 held

pub reads_ok : (text : List ℕ) (draft : Parsed) (problem : ProblemValue) → first_fault problem_rule [] (lines_of text) ≡ None → draft ≡ parsed_of (lines_of text) → Ok problem ≡ ending draft → reads text ≡ Ok problem
unfolding reads
reads_ok text draft problem found held closed = rw (found, ← held, ← closed) refl

pub reads_end : (text : List ℕ) (draft : Parsed) (f : ProblemFault) (lines : ℕ) → first_fault problem_rule [] (lines_of text) ≡ None → draft ≡ parsed_of (lines_of text) → lines ≡ counted (length (lines_of text)) → Err f ≡ ending draft
    → reads text ≡ Err (text_fault.Fault (number_of f) lines)
unfolding reads
reads_end text draft f lines found held count closed = rw (found, ← held, ← closed, count) refl

pub reads_fault : (e : TextFault) (text : List ℕ) → generic.Finishes problem_rule holds (Err e) text → Finishes (Err e) text
unfolding reads
reads_fault text_fault.Memory text found = found
reads_fault (text_fault.Fault number line) text found = rw found refl

pub parsed_of_nothing : record { size = None; marks = []; rows = [] } ≡ parsed_of []
unfolding parsed_of
parsed_of_nothing = refl
