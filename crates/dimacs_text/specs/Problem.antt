-- Problem texts: what each line says by itself, and its fault among the lines before it.
use Rattle.std.specs.Prelude.{ℕ, Bool, true, false, not, ◌&&◌, ◌||◌, List, [], ◌∷◌, ◌++◌, Option, Some, None, Result, Ok, Err, length, unwrap_or, nat_le, nat_lt, ◌==◌, is_none, if◌then◌else◌, ℤ, pos, bytes_eq, codes}
use Rattle.std.specs.List.{flat_map, list_any}
use Rattle.dimacs_lines.specs.Lines.{Line}
use Rattle.dimacs_lines.specs.Fields.{Word, words_of, begins_comment, fields_of, field, natural_value, integer_value}
use Rattle.dimacs_lines.specs.Checks.{◌>>=◌, demand, some_or, has_fields, natural_in, integer_in}
use Rattle.dimacs_lines.specs.declared.fault.LineFault.TheVariants as of_line
use Rattle.dimacs_text.specs.declared.problem_fault.ProblemFault.{ProblemFault}
use Rattle.dimacs_text.specs.declared.problem_fault.ProblemFault.TheVariants as fault
use Rattle.dimacs_text.specs.ProblemFault.{number_of, in_line}
use Rattle.dimacs_text.specs.declared.problem.Kind.{Kind}
use Rattle.dimacs_text.specs.declared.problem.Kind.TheVariants.{Min, Max, Asn}
use Rattle.dimacs_text.specs.declared.problem.NodeMark.{NodeMark}
use Rattle.dimacs_text.specs.declared.problem.NodeMark.TheVariants.{Supply, Source, Sink, Side}
use Rattle.dimacs_text.specs.declared.problem.ArcRow.{ArcRow}
use Rattle.dimacs_text.specs.declared.problem.Size.{Size}
use Rattle.dimacs_text.specs.declared.problem.TheConstants.{NODE_LIMIT, ARC_LIMIT, CAP_LIMIT, COST_LIMIT, SUPPLY_LIMIT}
use Rattle.dimacs_text.specs.declared.designator.Designator.{Designator}
use Rattle.dimacs_text.specs.declared.designator.Designator.TheVariants as designator

-- ---- a line by itself

-- what the first word makes of a line
abbrev pub designator_of : Word → Designator
designator_of word =
    if begins_comment word then designator.Comment else
    if bytes_eq word (codes "p") then designator.Problem else
    if bytes_eq word (codes "n") then designator.Node else
    if bytes_eq word (codes "a") then designator.Arc else designator.Unknown

abbrev pub first_of : List Word → Option Designator
first_of [] = None
first_of (word ∷ words) = Some (designator_of word)

abbrev pub is_problem : Option Designator → Bool
is_problem (Some designator.Problem) = true
is_problem _ = false

abbrev pub is_node : Option Designator → Bool
is_node (Some designator.Node) = true
is_node _ = false

abbrev pub is_arc : Option Designator → Bool
is_arc (Some designator.Arc) = true
is_arc _ = false

-- the kind that a word names
abbrev pub kind_named : Word → Option Kind
kind_named word =
    if bytes_eq word (codes "min") then Some Min else
    if bytes_eq word (codes "max") then Some Max else
    if bytes_eq word (codes "asn") then Some Asn else None

abbrev pub kind_of : Word → Kind
kind_of word = unwrap_or (kind_named word) Min

-- the word of a node line that names the source, and the sink
abbrev pub is_source_word : Word → Bool
is_source_word word = bytes_eq word (codes "s")

abbrev pub is_sink_word : Word → Bool
is_sink_word word = bytes_eq word (codes "t")

abbrev pub size_of : List Word → Size
size_of fields = record { kind = kind_of (field 0 fields); nodes = natural_value (field 1 fields); arcs = natural_value (field 2 fields) }

abbrev pub mark_of : Kind → List Word → NodeMark
mark_of Min fields = Supply (natural_value (field 0 fields)) (integer_value (field 1 fields))
mark_of Max fields = if is_source_word (field 1 fields) then Source (natural_value (field 0 fields)) else Sink (natural_value (field 0 fields))
mark_of Asn fields = Side (natural_value (field 0 fields))

abbrev pub row_of : Kind → List Word → ArcRow
row_of Min fields = record {
  tail = natural_value (field 0 fields);
  head = natural_value (field 1 fields);
  low = pos (natural_value (field 2 fields));
  cap = pos (natural_value (field 3 fields));
  cost = integer_value (field 4 fields);
}
row_of Max fields = record {
  tail = natural_value (field 0 fields);
  head = natural_value (field 1 fields);
  low = pos 0;
  cap = pos (natural_value (field 2 fields));
  cost = pos 0;
}
row_of Asn fields = record {
  tail = natural_value (field 0 fields);
  head = natural_value (field 1 fields);
  low = pos 0;
  cap = pos 1;
  cost = integer_value (field 2 fields);
}

-- ---- what lines tell

-- the problem line, and what the node and arc lines after it say, in order
pub record Parsed : Type 0 where
  pub size : Option Size
  pub marks : List NodeMark
  pub rows : List ArcRow

-- the mark of a node line, and the row of an arc line
abbrev pub marks_of : Kind → Line → List NodeMark
marks_of kind line = if is_node (first_of (words_of line)) then mark_of kind (fields_of (words_of line)) ∷ [] else []

abbrev pub rows_of : Kind → Line → List ArcRow
rows_of kind line = if is_arc (first_of (words_of line)) then row_of kind (fields_of (words_of line)) ∷ [] else []

abbrev pub parsed_after : Size → List Line → Parsed
parsed_after size lines = record { size = Some size; marks = flat_map (marks_of size.kind) lines; rows = flat_map (rows_of size.kind) lines }

unfoldable pub parsed_of : List Line → Parsed
parsed_of [] = record { size = None; marks = []; rows = [] }
parsed_of (line ∷ lines) =
    if is_problem (first_of (words_of line)) then parsed_after (size_of (fields_of (words_of line))) lines else parsed_of lines

-- the same with one line more
abbrev pub size_with : Option Size → Line → Option Size
size_with None line = if is_problem (first_of (words_of line)) then Some (size_of (fields_of (words_of line))) else None
size_with (Some size) line = Some size

-- the mark and the row that fields say where the size is known
abbrev pub new_marks : Option Size → List Word → List NodeMark
new_marks None fields = []
new_marks (Some size) fields = mark_of size.kind fields ∷ []

abbrev pub new_rows : Option Size → List Word → List ArcRow
new_rows None fields = []
new_rows (Some size) fields = row_of size.kind fields ∷ []

abbrev pub marks_with : Option Size → Line → List NodeMark
marks_with None line = []
marks_with (Some size) line = marks_of size.kind line

abbrev pub rows_with : Option Size → Line → List ArcRow
rows_with None line = []
rows_with (Some size) line = rows_of size.kind line

unfoldable pub and_parsed : Parsed → Line → Parsed
and_parsed told line = record { size = size_with told.size line; marks = told.marks ++ marks_with told.size line; rows = told.rows ++ rows_with told.size line }

-- ---- a line among the lines before it

abbrev pub kind_in : Word → Result Kind ProblemFault
kind_in word = some_or (kind_named word) fault.UnknownKind

-- the node that a mark names
abbrev pub node_of : NodeMark → ℕ
node_of (Supply id value) = id
node_of (Source id) = id
node_of (Sink id) = id
node_of (Side id) = id

-- whether a node is named
abbrev pub is_named : ℕ → List NodeMark → Bool
is_named id marks = list_any (λ mark. node_of mark == id) marks

-- the supply that a mark gives
abbrev pub supply_of : NodeMark → ℤ
supply_of (Supply id value) = value
supply_of (Source id) = pos 0
supply_of (Sink id) = pos 0
supply_of (Side id) = pos 0

-- the supply of a node, 0 where no mark names it
abbrev pub supply_at : List NodeMark → ℕ → ℤ
supply_at [] id = pos 0
supply_at (mark ∷ marks) id = if node_of mark == id then supply_of mark else supply_at marks id

-- the source, and the sink; 0, which is no node, where none is named
abbrev pub source_of : List NodeMark → ℕ
source_of [] = 0
source_of (Source id ∷ marks) = id
source_of (Supply id value ∷ marks) = source_of marks
source_of (Sink id ∷ marks) = source_of marks
source_of (Side id ∷ marks) = source_of marks

abbrev pub sink_of : List NodeMark → ℕ
sink_of [] = 0
sink_of (Sink id ∷ marks) = id
sink_of (Supply id value ∷ marks) = sink_of marks
sink_of (Source id ∷ marks) = sink_of marks
sink_of (Side id ∷ marks) = sink_of marks

-- the problem line, after its designator
unfoldable pub read_size : Parsed → List Word → Result Size ProblemFault
read_size told fields = do
  _ ← demand (is_none told.size) fault.SecondProblemLine
  _ ← in_line (has_fields 3 fields)
  kind ← kind_in (field 0 fields)
  nodes ← in_line (natural_in 1 NODE_LIMIT (field 1 fields))
  arcs ← in_line (natural_in 0 ARC_LIMIT (field 2 fields))
  Ok (record { kind = kind; nodes = nodes; arcs = arcs })

abbrev pub is_source : NodeMark → Bool
is_source (Source id) = true
is_source _ = false

abbrev pub is_sink : NodeMark → Bool
is_sink (Sink id) = true
is_sink _ = false

abbrev pub has_source : List NodeMark → Bool
has_source marks = list_any is_source marks

abbrev pub has_sink : List NodeMark → Bool
has_sink marks = list_any is_sink marks

-- whether each terminal that the kind asks for is named
abbrev pub has_terminals : Kind → List NodeMark → Bool
has_terminals Min marks = true
has_terminals Max marks = has_source marks && has_sink marks
has_terminals Asn marks = true

-- the fields of a node line of `min`: `ID FLOW`
unfoldable pub read_supply : ℕ → List NodeMark → List Word → Result NodeMark ProblemFault
read_supply nodes marks fields = do
  _ ← in_line (has_fields 2 fields)
  id ← in_line (natural_in 1 nodes (field 0 fields))
  value ← in_line (integer_in SUPPLY_LIMIT (field 1 fields))
  _ ← demand (not (is_named id marks)) fault.NamedTwice
  Ok (Supply id value)

-- those of `max`: `ID s` or `ID t`
abbrev pub terminal_by : Bool → ℕ → List NodeMark → Result NodeMark ProblemFault
terminal_by true id marks = demand (not (has_source marks)) fault.NamedTwice >>= λ _. Ok (Source id)
terminal_by false id marks = demand (not (has_sink marks)) fault.NamedTwice >>= λ _. Ok (Sink id)

unfoldable pub read_terminal : ℕ → List NodeMark → List Word → Result NodeMark ProblemFault
read_terminal nodes marks fields = do
  _ ← in_line (has_fields 2 fields)
  id ← in_line (natural_in 1 nodes (field 0 fields))
  _ ← demand (is_source_word (field 1 fields) || is_sink_word (field 1 fields)) fault.UnknownNodeWord
  _ ← demand (not (is_named id marks)) fault.NamedTwice
  terminal_by (is_source_word (field 1 fields)) id marks

-- that of `asn`: `ID`
unfoldable pub read_side : ℕ → List NodeMark → List Word → Result NodeMark ProblemFault
read_side nodes marks fields = do
  _ ← in_line (has_fields 1 fields)
  id ← in_line (natural_in 1 nodes (field 0 fields))
  _ ← demand (not (is_named id marks)) fault.NamedTwice
  Ok (Side id)

abbrev pub read_mark_of : Kind → ℕ → List NodeMark → List Word → Result NodeMark ProblemFault
read_mark_of Min nodes marks fields = read_supply nodes marks fields
read_mark_of Max nodes marks fields = read_terminal nodes marks fields
read_mark_of Asn nodes marks fields = read_side nodes marks fields

-- a node line
unfoldable pub read_mark : Parsed → List Word → Result NodeMark ProblemFault
read_mark told fields = do
  size ← some_or told.size fault.BeforeProblemLine
  _ ← demand (length told.rows == 0) fault.NodeAfterArc
  read_mark_of size.kind size.nodes told.marks fields

-- the fields of an arc line of `min`: `SRC DST LOW CAP COST`
unfoldable pub read_min_row : ℕ → List Word → Result ArcRow ProblemFault
read_min_row nodes fields = do
  _ ← in_line (has_fields 5 fields)
  tail ← in_line (natural_in 1 nodes (field 0 fields))
  head ← in_line (natural_in 1 nodes (field 1 fields))
  low ← in_line (natural_in 0 CAP_LIMIT (field 2 fields))
  cap ← in_line (natural_in 0 CAP_LIMIT (field 3 fields))
  cost ← in_line (integer_in COST_LIMIT (field 4 fields))
  _ ← demand (nat_le low cap) fault.LowAboveCap
  Ok (record { tail = tail; head = head; low = pos low; cap = pos cap; cost = cost })

-- those of `max`: `SRC DST CAP`
unfoldable pub read_max_row : ℕ → List Word → Result ArcRow ProblemFault
read_max_row nodes fields = do
  _ ← in_line (has_fields 3 fields)
  tail ← in_line (natural_in 1 nodes (field 0 fields))
  head ← in_line (natural_in 1 nodes (field 1 fields))
  cap ← in_line (natural_in 0 CAP_LIMIT (field 2 fields))
  Ok (record { tail = tail; head = head; low = pos 0; cap = pos cap; cost = pos 0 })

-- those of `asn`: `SRC DST COST`, from a node that is named to one that is not
unfoldable pub read_asn_row : ℕ → List NodeMark → List Word → Result ArcRow ProblemFault
read_asn_row nodes marks fields = do
  _ ← in_line (has_fields 3 fields)
  tail ← in_line (natural_in 1 nodes (field 0 fields))
  head ← in_line (natural_in 1 nodes (field 1 fields))
  cost ← in_line (integer_in COST_LIMIT (field 2 fields))
  _ ← demand (is_named tail marks && not (is_named head marks)) fault.NotAcrossSides
  Ok (record { tail = tail; head = head; low = pos 0; cap = pos 1; cost = cost })

abbrev pub read_row_of : Kind → ℕ → List NodeMark → List Word → Result ArcRow ProblemFault
read_row_of Min nodes marks fields = read_min_row nodes fields
read_row_of Max nodes marks fields = read_max_row nodes fields
read_row_of Asn nodes marks fields = read_asn_row nodes marks fields

-- an arc line
unfoldable pub read_row : Parsed → List Word → Result ArcRow ProblemFault
read_row told fields = do
  size ← some_or told.size fault.BeforeProblemLine
  _ ← demand (has_terminals size.kind told.marks) fault.EndpointMissing
  _ ← demand (nat_lt (length told.rows) size.arcs) fault.TooManyArcs
  read_row_of size.kind size.nodes told.marks fields

-- the number of the fault, if there is one
abbrev pub fault_of : {A : Type 0} → Result A ProblemFault → Option ℕ
fault_of (Ok x) = None
fault_of (Err fault) = Some (number_of fault)

-- the number of the fault of a line that is not too long, by its words
abbrev pub fault_by : Parsed → Option Designator → List Word → Option ℕ
fault_by told None fields = None
fault_by told (Some designator.Comment) fields = None
fault_by told (Some designator.Problem) fields = fault_of (read_size told fields)
fault_by told (Some designator.Node) fields = fault_of (read_mark told fields)
fault_by told (Some designator.Arc) fields = fault_of (read_row told fields)
fault_by told (Some designator.Unknown) fields = Some (number_of (fault.Line of_line.UnknownDesignator))

abbrev pub line_fault : Parsed → Line → Option ℕ
line_fault told line = fault_by told (first_of (words_of line)) (fields_of (words_of line))
