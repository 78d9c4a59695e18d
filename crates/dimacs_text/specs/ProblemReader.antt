-- What a reader of problem texts stands for.
use Rattle.std.specs.Prelude.{◌≡◌, ℕ, List, Result, Ok, Err}
use Rattle.dimacs_lines.specs.declared.fault.TextFault.{TextFault}
use Rattle.dimacs_lines.specs.declared.fault.TextFault.TheVariants as text_fault
use Rattle.dimacs_lines.specs.Lines.{Line}
use Rattle.dimacs_text.specs.Problem.{parsed_of}
use Rattle.dimacs_lines.specs.Reader as generic
use Rattle.dimacs_lines.specs.Stream.{StopsWell}
use Rattle.dimacs_text.specs.declared.draft.Draft.{Draft}
use Rattle.dimacs_text.specs.declared.problem_reader.ProblemReader.{ProblemReader}
use Rattle.dimacs_text.specs.Reading.{ProblemValue, problem_rule, reads}

-- the draft holds what the lines tell
abbrev pub holds : List Line → Draft → Type 0
holds before draft = draft ≡ parsed_of before

-- the reader holds what reading takes from the text
abbrev pub StandsFor : ProblemReader → List ℕ → Type 0
StandsFor reader text = generic.StandsFor problem_rule holds reader.reader text

-- after a piece: memory aside, the fault that is decided or none, and the reader stands for the text
abbrev pub Feeds : Result (Unit {0}) TextFault → ProblemReader → List ℕ → Type 0
Feeds result reader text = generic.Feeds problem_rule holds result reader.reader text

-- at the end: what reading gives; memory is wanted for a last line alone, where none is faulty
abbrev pub Finishes : Result ProblemValue TextFault → List ℕ → Type 0
Finishes (Ok problem) text = reads text ≡ Ok problem
Finishes (Err text_fault.Memory) text = StopsWell problem_rule text
Finishes (Err (text_fault.Fault number line)) text = reads text ≡ Err (text_fault.Fault number line)

-- the reader answered this, and answers it from then on
abbrev pub HasFailed : ProblemReader → TextFault → Type 0
HasFailed reader fault = generic.HasFailed reader.reader fault
