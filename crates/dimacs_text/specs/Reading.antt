-- Reading a problem text: its first faulty line, or the fault at its end, or the problem.
use Rattle.std.specs.Prelude.{◌≡◌, ℕ, List, [], Option, Some, None, Result, Ok, Err, length, not, nat_lt, if◌then◌else◌}
use Rattle.dimacs_text.specs.declared.problem_fault.ProblemFault.{ProblemFault}
use Rattle.dimacs_text.specs.declared.problem_fault.ProblemFault.TheVariants as fault
use Rattle.dimacs_text.specs.ProblemFault.{number_of}
use Rattle.dimacs_lines.specs.Checks.{numbered}
use Rattle.dimacs_lines.specs.declared.fault.LineError.{LineError}
use Rattle.dimacs_lines.specs.declared.fault.TextFault.{TextFault}
use Rattle.dimacs_text.specs.declared.problem.Kind.{Kind}
use Rattle.dimacs_text.specs.declared.problem.NodeMark.{NodeMark}
use Rattle.dimacs_text.specs.declared.problem.ArcRow.{ArcRow}
use Rattle.dimacs_text.specs.declared.problem.Size.{Size}
use Rattle.std.specs.List.{before_first}
use Rattle.dimacs_lines.specs.Lines.{Line, is_line_feed, lines_of}
use Rattle.dimacs_lines.specs.Fields.{Word}
use Rattle.dimacs_lines.specs.Cut.{IsFront}
use Rattle.dimacs_lines.specs.Front.{AreLastWords}
use Rattle.dimacs_text.specs.Problem.{Parsed, parsed_of, and_parsed, line_fault, has_terminals}
use Rattle.dimacs_lines.specs.Stream.{Rule, Reports, first_fault, fault_or, or_at}

-- a problem without where it lies in memory
pub record ProblemValue : Type 0 where
  pub kind : Kind
  pub nodes : ℕ
  pub marks : List NodeMark
  pub arcs : List ArcRow

-- what lines without a fault give at the end of the text
abbrev pub ending_by : Option Size → Parsed → Result ProblemValue ProblemFault
ending_by None told = Err fault.NoProblemLine
ending_by (Some size) told =
    if not (has_terminals size.kind told.marks) then Err fault.EndpointMissing
    else if nat_lt (length told.rows) size.arcs then Err fault.TooFewArcs
    else Ok (record { kind = size.kind; nodes = size.nodes; marks = told.marks; arcs = told.rows })

abbrev pub ending : Parsed → Result ProblemValue ProblemFault
ending told = ending_by told.size told

-- the number of the fault of a line that fits, by itself and what the lines before it tell
abbrev pub problem_rule : Rule
problem_rule before line = line_fault (parsed_of before) line

-- the problem of lines without a fault, or the fault at their end with their number
abbrev pub problem_end : List Line → Result ProblemValue TextFault
problem_end lines = or_at (numbered number_of (ending (parsed_of lines))) (length lines)

-- the first faulty line, or the fault at the end with the number of lines, or the problem
unfoldable pub reads : List ℕ → Result ProblemValue TextFault
reads text = fault_or (first_fault problem_rule [] (lines_of text)) (problem_end (lines_of text))

-- what was taken is without a fault, and told as expected; or its fault is told, or want of memory where it has none
abbrev pub TakesAs : Result (Unit {0}) LineError → Option ℕ → Parsed → Parsed → Type 0
TakesAs (Ok _) found expected new = (found ≡ None) × (new ≡ expected)
TakesAs (Err e) found expected new = Reports e found

-- a line was taken
abbrev pub Takes : Result (Unit {0}) LineError → Line → Parsed → Parsed → Type 0
Takes result line old new = TakesAs result (line_fault old line) (and_parsed old line) new

-- the line at the front of a text was taken, or nothing
abbrev pub TakesFirst : Option ℕ → List ℕ → Parsed → Parsed → Type 0
TakesFirst None text old new = new ≡ old
TakesFirst (Some used) text old new = IsFront used text × Takes (Ok tt) (before_first is_line_feed text) old new

-- behind a designator of one byte, the first line of a text has fields that are read so; with its LF it has so many bytes
pub record Says {A : Type 0} (read : List Word → Result A ProblemFault) (text : List ℕ) (x : A) (used : ℕ) : Type 0 where
  pub fields : List Word
  pub is_read : read fields ≡ Ok x
  pub fields_are : AreLastWords text 1 fields used
