-- What a reader of a text stands for.
use Rattle.std.specs.Prelude.{◌≡◌, ℕ, List, [], ◌++◌, Some, None, Result, Ok, Err, length, take}
use Rattle.dimacs_lines.specs.declared.fault.TextFault.{TextFault}
use Rattle.dimacs_lines.specs.declared.fault.TextFault.TheVariants as text_fault
use Rattle.dimacs_lines.specs.Lines.{Line, lines_of}
use Rattle.dimacs_lines.specs.Cut.{begun_line}
use Rattle.dimacs_lines.specs.declared.reader.TextReader.{TextReader}
use Rattle.dimacs_lines.specs.Stream.{Rule, Stands, StopsWell, IsDecidedBy, decided, first_fault, counted}

module _ {T : Type 0} where
  -- the reader holds what reading takes from the text
  abbrev pub StandsFor : Rule → (List Line → T → Type 0) → TextReader T → List ℕ → Type 0
  StandsFor rule holds reader text = Stands rule holds reader.failure reader.lines reader.taker (begun_line reader.cutter) text

  -- after a piece: memory aside, the fault that is decided or none, and the reader stands for the text
  abbrev pub Feeds : Rule → (List Line → T → Type 0) → Result (Unit {0}) TextFault → TextReader T → List ℕ → Type 0
  Feeds rule holds (Ok _) reader text = (decided rule text ≡ None) × StandsFor rule holds reader text
  Feeds rule holds (Err text_fault.Memory) reader text = Unit {0}
  Feeds rule holds (Err (text_fault.Fault number line)) reader text = (decided rule text ≡ Some (text_fault.Fault number line)) × StandsFor rule holds reader text

  -- after a part of a piece, which ends at an LF or with the piece
  abbrev pub FeedsPart : Rule → (List Line → T → Type 0) → Result ℕ TextFault → List ℕ → TextReader T → List ℕ → Type 0
  FeedsPart rule holds (Ok used) piece reader text = (decided rule (text ++ take used piece) ≡ None) × StandsFor rule holds reader (text ++ take used piece)
  FeedsPart rule holds (Err e) piece reader text = IsDecidedBy rule e text piece

  -- the reader answered this, and answers it from then on
  abbrev pub HasFailed : TextReader T → TextFault → Type 0
  HasFailed reader fault = reader.failure ≡ Some fault

  -- at the end: the first fault of the lines, or what they tell, with their count; memory is wanted for a last line alone
  abbrev pub Finishes : Rule → (List Line → T → Type 0) → Result (T × ℕ) TextFault → List ℕ → Type 0
  Finishes rule holds (Ok x) text = (first_fault rule [] (lines_of text) ≡ None) × holds (lines_of text) x.0 × (x.1 ≡ counted (length (lines_of text)))
  Finishes rule holds (Err text_fault.Memory) text = StopsWell rule text
  Finishes rule holds (Err (text_fault.Fault number line)) text = first_fault rule [] (lines_of text) ≡ Some (text_fault.Fault number line)
