-- Reading a whole text from a source.
use Rattle.std.specs.Prelude.{◌≡◌, ℕ, ◌+◌, Bool, true, false, List, ◌++◌, length, take, ◌⊎◌, Option, None, Some, IfSome, Result, Ok, Err, ⊤}
use Rattle.std.specs.Io.KnownBytes.{Consumes, IsAtEnd}
use Rattle.dimacs_io.specs.Device.{IsBeginning}
use Rattle.dimacs_lines.specs.declared.fault.TextFault.{TextFault}
use Rattle.dimacs_lines.specs.declared.fault.TextFault.TheVariants as text_fault
use Rattle.answer_text.specs.Answer.{answers}
use Rattle.dimacs_text.specs.Reading.{ProblemValue, reads}
use Rattle.answer_text.specs.declared.answer.Answer.{Answer}
use Rattle.runs.specs.declared.read.ReadError.{ReadError}
use Rattle.runs.specs.declared.read.ReadError.TheVariants as read_error
use Rattle.runs.specs.declared.end.Text.{Text}
use Rattle.runs.specs.declared.end.End.{End}
use Rattle.runs.specs.declared.end.End.TheVariants.{Refused, ReadFailed, Memory}

-- how a run ends that meets the error in a text
abbrev pub error_end : Text → ReadError → End
error_end input (read_error.Text (text_fault.Fault number line)) = Refused input number line
error_end input (read_error.Text text_fault.Memory) = Memory
error_end input read_error.Source = ReadFailed input

-- so many bytes came from a source
pub record Gives (old new : Option (List ℕ)) (given : List ℕ) (left_old left_new : ℕ) : Type 0 where
  pub bytes : Consumes old new given
  pub count : left_new + length given ≡ left_old

-- so many bytes came, and the log of what the source has given grew by them
pub record GivesAndLogs (old new : Option (List ℕ)) (given : List ℕ) (left_old left_new : ℕ) (log_old log_new : List ℕ) : Type 0 where
  pub gives : Gives old new given left_old left_new
  pub log : log_new ≡ log_old ++ given

-- the same of a source, by what it tells of its bytes and of those that it has given, and how many can still come
abbrev pub SourceGives : {S : Type 0} → (S → Option (List ℕ)) → (S → List ℕ) → (S → ℕ) → S → S → List ℕ → Type 0
SourceGives remaining log most_left old new given =
    GivesAndLogs (remaining old) (remaining new) given (most_left old) (most_left new) (log old) (log new)

-- nothing is known to be left of a text, and the last read of it gave none
abbrev pub HasEnded : Option (List ℕ) → Bool → Type 0
HasEnded rest ended = IsAtEnd rest × (ended ≡ true)

-- what a source gave before stays at the front of its log, and where the whole text was read, its last read gave none
pub record IsRead (whole : Bool) (log_old log_new : List ℕ) (ended : Bool) : Type 0 where
  pub grows : IsBeginning log_old log_new
  pub ends : whole ≡ true → ended ≡ true

-- the same of a source
abbrev pub SourceIsRead : {S : Type 0} → Bool → (S → List ℕ) → (S → Bool) → S → S → Type 0
SourceIsRead whole log ended old new = IsRead whole (log old) (log new) (ended new)

-- whether the text was read to its end, by what it was read as: not where its fault was found, a read failed or memory
-- was refused
abbrev pub reads_all : {X E : Type 0} → Result X E → Bool
reads_all (Ok x) = true
reads_all (Err error) = false

-- after a piece, memory aside: the fault that the text decides, or none, and the reader stands for the text
abbrev pub HasTaken : (List ℕ → Option TextFault) → Result (Unit {0}) TextFault → List ℕ → Type 0 → Type 0
HasTaken decided (Ok _) text stands = (decided text ≡ None) × stands
HasTaken decided (Err text_fault.Memory) text stands = Unit {0}
HasTaken decided (Err (text_fault.Fault number line)) text stands = decided text ≡ Some (text_fault.Fault number line)

-- at the end, memory aside: what the text is read as
abbrev pub FinishesText : {X : Type 0} → (List ℕ → Result X TextFault) → Result X TextFault → List ℕ → Type 0
FinishesText reads (Ok x) text = reads text ≡ Ok x
FinishesText reads (Err text_fault.Memory) text = Unit {0}
FinishesText reads (Err (text_fault.Fault number line)) text = reads text ≡ Err (text_fault.Fault number line)

-- of the text `given` has come, `rest` is known to be left, and the last read ended it or not: the whole text reads as
-- this, its fault is decided by now, or a read failed before that
abbrev pub ReadsText : {X : Type 0} → (List ℕ → Option TextFault) → (List ℕ → Result X TextFault) → Result X ReadError → List ℕ → Option (List ℕ) → Bool → Type 0
ReadsText decided reads (Ok x) given rest ended = HasEnded rest ended × (reads given ≡ Ok x)
ReadsText decided reads (Err (read_error.Text text_fault.Memory)) given rest ended = Unit {0}
ReadsText decided reads (Err (read_error.Text (text_fault.Fault number line))) given rest ended =
    (decided given ≡ Some (text_fault.Fault number line)) ⊎ (HasEnded rest ended × (reads given ≡ Err (text_fault.Fault number line)))
ReadsText decided reads (Err read_error.Source) given rest ended = decided given ≡ None

-- of the text `given` has come: it is the whole, which reads as this, the fault is that of the text, or a read failed
-- before one was decided
abbrev pub ReadsWhole : {X : Type 0} → (List ℕ → Option TextFault) → (List ℕ → Result X TextFault) → Result X ReadError → List ℕ → List ℕ → Type 0
ReadsWhole decided reads (Ok x) text given = (given ≡ text) × (reads text ≡ Ok x)
ReadsWhole decided reads (Err (read_error.Text text_fault.Memory)) text given = Unit {0}
ReadsWhole decided reads (Err (read_error.Text (text_fault.Fault number line))) text given = reads text ≡ Err (text_fault.Fault number line)
ReadsWhole decided reads (Err read_error.Source) text given = decided given ≡ None

-- the same of a source that tells its text, of which so many bytes were read
abbrev pub ReadsKnown : {X : Type 0} → (List ℕ → Option TextFault) → (List ℕ → Result X TextFault) → Result X ReadError → Option (List ℕ) → ℕ → Type 0
ReadsKnown decided reads result known count = IfSome known (λ text. ReadsWhole decided reads result text (take count text))

-- the count of a source's failed calls rises exactly where a failed read ended the reading
abbrev pub CountsRead : {X : Type 0} → Result X ReadError → ℕ → ℕ → Type 0
CountsRead (Ok x) old new = new ≡ old
CountsRead (Err (read_error.Text fault)) old new = new ≡ old
CountsRead (Err read_error.Source) old new = new ≡ old + 1

-- a failed read that ended the reading was the last one
abbrev pub FailsLastRead : {X : Type 0} → Result X ReadError → Bool → Type 0
FailsLastRead (Err read_error.Source) failed = failed ≡ true
FailsLastRead _ failed = ⊤

-- the whole text was given, and it is a problem
pub record IsProblemText (text given : List ℕ) (problem : ProblemValue) : Type 0 where
  pub whole : given ≡ text
  pub problem_is : reads text ≡ Ok problem

-- the whole text was given, and it is an answer to the problem
pub record IsAnswerText (problem : ProblemValue) (text given : List ℕ) (answer : Answer) : Type 0 where
  pub whole : given ≡ text
  pub answer_is : answers problem.nodes (length problem.arcs) text ≡ Ok answer
