-- What a reader's answer to a whole text says of it.
use Rattle.std.proofs.Common.{◌≡◌, ℕ, List, [], ◌++◌, Some, Result, Ok, Err}
use Rattle.std.proofs.lemmas.List.{append-nil}
use Rattle.dimacs_lines.specs.declared.fault.TextFault.{TextFault}
use Rattle.dimacs_lines.specs.declared.fault.TextFault.TheVariants as text_fault
use Rattle.dimacs_lines.specs.Stream.{decided}
use Rattle.dimacs_text.specs.declared.problem_reader.ProblemReader.{ProblemReader}
use Rattle.dimacs_text.specs.ProblemReader.{Feeds, Finishes}
use Rattle.dimacs_text.specs.Reading.{ProblemValue, problem_rule, reads}
use Rattle.c_calls.specs.Library.{ReadsAs}

pub fed : ((text more : List ℕ) (f : TextFault) → decided problem_rule text ≡ Some f → reads (text ++ more) ≡ Err f) → (e : TextFault) (reader : ProblemReader) (text : List ℕ) → Feeds (Err e) reader text → ReadsAs (Err e) text
fed always text_fault.Memory reader text feeds = tt
fed always (text_fault.Fault number line) reader text feeds = rw (append-nil text) at (always text [] (text_fault.Fault number line) feeds.0)

pub finished : (r : Result ProblemValue TextFault) (text : List ℕ) → Finishes r text → ReadsAs r text
finished (Ok problem) text finishes = finishes
finished (Err text_fault.Memory) text finishes = tt
finished (Err (text_fault.Fault number line)) text finishes = finishes
