-- Command texts: what a line by itself asks for, or the number of its first check that fails.
use Rattle.std.specs.Prelude.{ℕ, Bool, true, false, ◌&&◌, not, List, [], ◌∷◌, Option, Some, None, Result, Ok, Err, length, ◌==◌, if◌then◌else◌, pos, bytes_eq, codes}
use Rattle.dimacs_lines.specs.declared.fault.LineFault.{LineFault}
use Rattle.dimacs_lines.specs.declared.fault.LineFault.TheVariants as of_line
use Rattle.dimacs_text.specs.declared.command_fault.CommandFault.{CommandFault}
use Rattle.dimacs_text.specs.declared.command_fault.CommandFault.TheVariants as fault
use Rattle.dimacs_text.specs.declared.problem.Kind.{Kind}
use Rattle.dimacs_text.specs.declared.problem.Kind.TheVariants.{Min, Max, Asn}
use Rattle.dimacs_text.specs.declared.problem.TheConstants.{CAP_LIMIT, COST_LIMIT, SUPPLY_LIMIT}
use Rattle.dimacs_lines.specs.declared.name.Name.{Name}
use Rattle.dimacs_text.specs.declared.command.Edit.{Edit}
use Rattle.dimacs_text.specs.declared.command.Edit.TheVariants as edits
use Rattle.dimacs_text.specs.declared.command.Command.{Command}
use Rattle.dimacs_text.specs.declared.command.Command.TheVariants as commands
use Rattle.dimacs_text.specs.declared.command.Verb.{Verb}
use Rattle.dimacs_text.specs.declared.command.Verb.TheVariants as verbs
use Rattle.dimacs_text.specs.CommandFault.{number_of, in_line}
use Rattle.dimacs_lines.specs.Lines.{Line, is_too_long}
use Rattle.dimacs_lines.specs.Fields.{Word, words_of, field}
use Rattle.dimacs_lines.specs.Name.{name_of}
use Rattle.dimacs_lines.specs.Checks.{◌>>=◌, demand, some_or, numbered, has_fields, number_in, natural_in, integer_in}

-- the verb that a word is
abbrev pub verb_of : Word → Option Verb
verb_of word =
    if bytes_eq word (codes "cap") then Some verbs.Cap else
    if bytes_eq word (codes "low") then Some verbs.Low else
    if bytes_eq word (codes "cost") then Some verbs.Cost else
    if bytes_eq word (codes "supply") then Some verbs.Supply else
    if bytes_eq word (codes "add") then Some verbs.Add else
    if bytes_eq word (codes "close") then Some verbs.Close else
    if bytes_eq word (codes "undo") then Some verbs.Undo else
    if bytes_eq word (codes "redo") then Some verbs.Redo else
    if bytes_eq word (codes "show") then Some verbs.Show else
    if bytes_eq word (codes "proof") then Some verbs.Proof else
    if bytes_eq word (codes "group") then Some verbs.Group else
    if bytes_eq word (codes "end") then Some verbs.End else
    if bytes_eq word (codes "mark") then Some verbs.Mark else
    if bytes_eq word (codes "back") then Some verbs.Back else None

-- the kinds that have the command
abbrev pub is_for : Kind → Verb → Bool
is_for Asn verbs.Cap = false
is_for Max verbs.Low = false
is_for Asn verbs.Low = false
is_for Max verbs.Cost = false
is_for Max verbs.Supply = false
is_for Asn verbs.Supply = false
is_for kind verb = true

-- the verb of an edit
abbrev pub verb_for : Edit → Verb
verb_for (edits.Cap arc cap) = verbs.Cap
verb_for (edits.Low arc low) = verbs.Low
verb_for (edits.Cost arc cost) = verbs.Cost
verb_for (edits.Supply node value) = verbs.Supply
verb_for (edits.Add tail head low cap cost) = verbs.Add
verb_for (edits.Close arc) = verbs.Close

-- ---- the fields after the verb; arcs and nodes have no range here

unfoldable pub read_cap : List Word → Result Edit LineFault
read_cap fields = do
  _ ← has_fields 2 fields
  arc ← number_in (field 0 fields)
  cap ← natural_in 0 CAP_LIMIT (field 1 fields)
  Ok (edits.Cap arc (pos cap))

unfoldable pub read_low : List Word → Result Edit LineFault
read_low fields = do
  _ ← has_fields 2 fields
  arc ← number_in (field 0 fields)
  low ← natural_in 0 CAP_LIMIT (field 1 fields)
  Ok (edits.Low arc (pos low))

unfoldable pub read_cost : List Word → Result Edit LineFault
read_cost fields = do
  _ ← has_fields 2 fields
  arc ← number_in (field 0 fields)
  cost ← integer_in COST_LIMIT (field 1 fields)
  Ok (edits.Cost arc cost)

unfoldable pub read_supply : List Word → Result Edit LineFault
read_supply fields = do
  _ ← has_fields 2 fields
  node ← number_in (field 0 fields)
  value ← integer_in SUPPLY_LIMIT (field 1 fields)
  Ok (edits.Supply node value)

-- the fields of the kind's arc line
unfoldable pub read_min_arc : List Word → Result Edit LineFault
read_min_arc fields = do
  _ ← has_fields 5 fields
  tail ← number_in (field 0 fields)
  head ← number_in (field 1 fields)
  low ← natural_in 0 CAP_LIMIT (field 2 fields)
  cap ← natural_in 0 CAP_LIMIT (field 3 fields)
  cost ← integer_in COST_LIMIT (field 4 fields)
  Ok (edits.Add tail head (pos low) (pos cap) cost)

unfoldable pub read_max_arc : List Word → Result Edit LineFault
read_max_arc fields = do
  _ ← has_fields 3 fields
  tail ← number_in (field 0 fields)
  head ← number_in (field 1 fields)
  cap ← natural_in 0 CAP_LIMIT (field 2 fields)
  Ok (edits.Add tail head (pos 0) (pos cap) (pos 0))

unfoldable pub read_asn_arc : List Word → Result Edit LineFault
read_asn_arc fields = do
  _ ← has_fields 3 fields
  tail ← number_in (field 0 fields)
  head ← number_in (field 1 fields)
  cost ← integer_in COST_LIMIT (field 2 fields)
  Ok (edits.Add tail head (pos 0) (pos 1) cost)

abbrev pub read_add : Kind → List Word → Result Edit LineFault
read_add Min fields = read_min_arc fields
read_add Max fields = read_max_arc fields
read_add Asn fields = read_asn_arc fields

unfoldable pub read_close : List Word → Result Edit LineFault
read_close fields = do
  _ ← has_fields 1 fields
  arc ← number_in (field 0 fields)
  Ok (edits.Close arc)

abbrev pub as_edit : Result Edit LineFault → Result Command CommandFault
as_edit (Ok edit) = Ok (commands.Edit edit)
as_edit (Err e) = Err (fault.Line e)

abbrev pub read_bare : List Word → Command → Result Command CommandFault
read_bare fields command = if length fields == 0 then Ok command else Err (fault.Line of_line.WrongFieldCount)

unfoldable pub read_name : List Word → Result Name CommandFault
read_name fields = do
  _ ← in_line (has_fields 1 fields)
  some_or (name_of (field 0 fields)) fault.NotAName

abbrev pub as_mark : Result Name CommandFault → Result Command CommandFault
as_mark (Ok name) = Ok (commands.Mark name)
as_mark (Err fault) = Err fault

abbrev pub as_back : Result Name CommandFault → Result Command CommandFault
as_back (Ok name) = Ok (commands.Back name)
as_back (Err fault) = Err fault

-- ---- a line

abbrev pub read_by : Kind → Verb → List Word → Result Command CommandFault
read_by kind verbs.Cap fields = as_edit (read_cap fields)
read_by kind verbs.Low fields = as_edit (read_low fields)
read_by kind verbs.Cost fields = as_edit (read_cost fields)
read_by kind verbs.Supply fields = as_edit (read_supply fields)
read_by kind verbs.Add fields = as_edit (read_add kind fields)
read_by kind verbs.Close fields = as_edit (read_close fields)
read_by kind verbs.Undo fields = read_bare fields commands.Undo
read_by kind verbs.Redo fields = read_bare fields commands.Redo
read_by kind verbs.Show fields = read_bare fields commands.Show
read_by kind verbs.Proof fields = read_bare fields commands.Proof
read_by kind verbs.Group fields = read_bare fields commands.Group
read_by kind verbs.End fields = read_bare fields commands.End
read_by kind verbs.Mark fields = as_mark (read_name fields)
read_by kind verbs.Back fields = as_back (read_name fields)

-- the words of a line that is not blank
unfoldable pub read_words : Kind → List Word → Result Command CommandFault
read_words kind [] = Err (fault.Line of_line.UnknownDesignator)
read_words kind (word ∷ fields) = do
  verb ← some_or (verb_of word) (fault.Line of_line.UnknownDesignator)
  _ ← demand (is_for kind verb) fault.NotForKind
  read_by kind verb fields

-- what a line asks for
abbrev pub asked : Kind → Line → Result Command CommandFault
asked kind line = if is_too_long line then Err (fault.Line of_line.TooLong) else read_words kind (words_of line)

-- the same, or the number of the fault
abbrev pub command : Kind → Line → Result Command ℕ
command kind line = numbered number_of (asked kind line)

-- ---- the lines round a group, which are the same for every kind

abbrev pub is_group : Option Verb → Bool
is_group (Some verbs.Group) = true
is_group _ = false

abbrev pub is_end : Option Verb → Bool
is_end (Some verbs.End) = true
is_end _ = false

-- the one word of a line is such a verb
abbrev pub has_one : (Option Verb → Bool) → List Word → Bool
has_one is_such (word ∷ []) = is_such (verb_of word)
has_one is_such _ = false

-- the line opens a group: it is not too long, and its one word is `group`
abbrev pub opens_group : Line → Bool
opens_group line = not (is_too_long line) && has_one is_group (words_of line)

-- the line ends a group: it is not too long, and its one word is `end`
abbrev pub ends_group : Line → Bool
ends_group line = not (is_too_long line) && has_one is_end (words_of line)
