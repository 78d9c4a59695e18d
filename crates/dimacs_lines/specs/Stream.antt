-- A text whose lines are taken one after the other, each by a rule over itself and the lines before it.
use Rattle.std.specs.Prelude.{◌≡◌, ◌≢◌, ℕ, ◌+◌, ◌-◌, ◌^◌, min, Bool, true, List, [], ◌∷◌, ◌++◌, Option, Some, None, Result, Ok, Err, length, if◌then◌else◌}
use Rattle.dimacs_lines.specs.declared.fault.LineFault.TheVariants as fault
use Rattle.dimacs_lines.specs.declared.fault.LineError.{LineError}
use Rattle.dimacs_lines.specs.declared.fault.LineError.TheVariants as line_error
use Rattle.dimacs_lines.specs.declared.fault.TextFault.{TextFault}
use Rattle.dimacs_lines.specs.declared.fault.TextFault.TheVariants as text_fault
use Rattle.dimacs_lines.specs.Fault.{number_of}
use Rattle.std.specs.List.{before_first}
use Rattle.dimacs_lines.specs.Lines.{Line, Parts, parts_of, lines_of, is_line_feed, is_too_long}
use Rattle.dimacs_lines.specs.Cut.{Cut, kept, begun_line, part_line, begun_with, has_line_feed}

-- the number of the fault of a line that fits, among the lines before it
abbrev pub Rule : Type 0
Rule = List Line → Line → Option ℕ

-- the count of lines stops at the greatest number of 64 bits
abbrev pub counted : ℕ → ℕ
counted lines = min lines (2 ^ 64 - 1)

abbrev pub at_line : ℕ → ℕ → TextFault
at_line number line = text_fault.Fault number (counted line)

unfoldable pub fault_among : Rule → List Line → Line → Option ℕ
fault_among rule before line = if is_too_long line then Some (number_of fault.TooLong) else rule before line

abbrev pub or_else : Option ℕ → ℕ → Option TextFault → Option TextFault
or_else None line later = later
or_else (Some number) line later = Some (at_line number line)

-- the first of the lines that is faulty, where others stand before them
unfoldable pub first_fault : Rule → List Line → List Line → Option TextFault
first_fault rule before [] = None
first_fault rule before (line ∷ lines) = or_else (fault_among rule before line) (length before + 1) (first_fault rule (before ++ line ∷ []) lines)

-- what the end of the lines gives, where no line is faulty
abbrev pub fault_or : {A : Type 0} → Option TextFault → Result A TextFault → Result A TextFault
fault_or None result = result
fault_or (Some fault) result = Err fault

-- what a text is read as: its first fault, or what the end of its lines gives
abbrev pub read_by : {A : Type 0} → Rule → (List Line → Result A TextFault) → List ℕ → Result A TextFault
read_by rule ends text = fault_or (first_fault rule [] (lines_of text)) (ends (lines_of text))

-- a fault at the end by its number, with the number of lines
abbrev pub or_at : {A : Type 0} → Result A ℕ → ℕ → Result A TextFault
or_at (Ok x) lines = Ok x
or_at (Err number) lines = Err (at_line number lines)

-- the lines of which no further byte changes the fault: those that are ended, and one that is too long
abbrev pub settled_lines : Parts → List Line
settled_lines parts = parts.ended ++ (if is_too_long parts.rest then parts.rest ∷ [] else [])

-- the fault that every text has which begins so
unfoldable pub decided : Rule → List ℕ → Option TextFault
decided rule text = first_fault rule [] (settled_lines (parts_of text))

-- what is told of a line that was not taken: its fault, or want of memory where it has none
abbrev pub Reports : LineError → Option ℕ → Type 0
Reports line_error.Memory found = found ≡ None
Reports (line_error.Fault number) found = found ≡ Some number

-- a line that is cut: too long, complete, or begun
abbrev pub cut_fault : Rule → Option Line → Bool → List Line → Option ℕ
cut_fault rule None complete before = Some (number_of fault.TooLong)
cut_fault rule (Some line) complete before = if complete then rule before line else None

-- what is told of a line that is cut: a complete one alone can want memory
abbrev pub ReportsCut : Rule → LineError → Option Line → Bool → List Line → Type 0
ReportsCut rule line_error.Memory line complete before = (cut_fault rule line complete before ≡ None) × (complete ≡ true)
ReportsCut rule (line_error.Fault number) line complete before = cut_fault rule line complete before ≡ Some number

abbrev pub lines_after : Option Line → Bool → List Line → List Line
lines_after None complete before = before
lines_after (Some line) complete before = if complete then before ++ line ∷ [] else before

module _ {T : Type 0} where
  -- a line that fits was taken
  abbrev pub TakesLine : Rule → (List Line → T → Type 0) → Result (Unit {0}) LineError → List Line → Line → T → Type 0
  TakesLine rule holds (Ok _) before line new = (rule before line ≡ None) × holds (before ++ line ∷ []) new
  TakesLine rule holds (Err e) before line new = Reports e (rule before line)

  -- the line at the front of a text was taken, or nothing
  abbrev pub TakesFront : Rule → (List Line → T → Type 0) → Option ℕ → List Line → List ℕ → T → Type 0
  TakesFront rule holds None before text new = holds before new
  TakesFront rule holds (Some used) before text new = TakesLine rule holds (Ok tt) before (before_first is_line_feed text) new

  abbrev pub TakesCut : Rule → (List Line → T → Type 0) → Result (Unit {0}) LineError → List Line → Option Line → Bool → T → Type 0
  TakesCut rule holds (Ok _) before line complete new = (cut_fault rule line complete before ≡ None) × holds (lines_after line complete before) new
  TakesCut rule holds (Err e) before line complete new = ReportsCut rule e line complete before

  -- the bytes of a piece through its first LF were taken: what stands of a line after them, and what is held
  pub record PartTaken (rule : Rule) (holds : List Line → T → Type 0) (before : List Line) (old : Cut) (piece : List ℕ) (cut : Cut) (new : T) : Type 0 where
    pub begun_is : begun_line cut ≡ begun_with (has_line_feed piece) (part_line old piece)
    pub faultless : cut_fault rule (part_line old piece) (has_line_feed piece) before ≡ None
    pub held : holds (lines_after (part_line old piece) (has_line_feed piece) before) new

  abbrev pub TakesPart : {A : Type 0} → Rule → (List Line → T → Type 0) → Result A LineError → List Line → Cut → List ℕ → Cut → T → Type 0
  TakesPart rule holds (Ok _) before old piece cut new = PartTaken rule holds before old piece cut new
  TakesPart rule holds (Err e) before old piece cut new = ReportsCut rule e (part_line old piece) (has_line_feed piece) before

  -- nothing is decided, and this is what the text leaves
  pub record IsOpen (rule : Rule) (holds : List Line → T → Type 0) (text : List ℕ) (lines : ℕ) (taker : T) (begun : Option Line) : Type 0 where
    pub undecided : decided rule text ≡ None
    pub lines_are : lines ≡ counted (length (parts_of text).ended)
    pub held : holds (parts_of text).ended taker
    pub begun_is : begun ≡ kept (parts_of text).rest

  -- the reader holds what reading takes from the text
  abbrev pub Stands : Rule → (List Line → T → Type 0) → Option TextFault → ℕ → T → Option Line → List ℕ → Type 0
  Stands rule holds (Some fault) lines taker begun text = decided rule text ≡ Some fault
  Stands rule holds None lines taker begun text = IsOpen rule holds text lines taker begun

-- a line ends in the piece, and the text through its LF decides no fault
pub record EndsWell (rule : Rule) (text piece : List ℕ) : Type 0 where
  pub front : List ℕ
  pub rest : List ℕ
  pub piece_is : piece ≡ front ++ 10 ∷ rest
  pub undecided : decided rule (text ++ (front ++ 10 ∷ [])) ≡ None

-- the text ends without an LF, and none of its lines is faulty
pub record StopsWell (rule : Rule) (text : List ℕ) : Type 0 where
  pub begun : (parts_of text).rest ≢ []
  pub faultless : first_fault rule [] (lines_of text) ≡ None

-- the fault is decided by the text with the piece, or memory was wanted for a line of the piece, through which none is
abbrev pub IsDecidedBy : Rule → TextFault → List ℕ → List ℕ → Type 0
IsDecidedBy rule text_fault.Memory text piece = EndsWell rule text piece
IsDecidedBy rule (text_fault.Fault number line) text piece = decided rule (text ++ piece) ≡ Some (text_fault.Fault number line)
