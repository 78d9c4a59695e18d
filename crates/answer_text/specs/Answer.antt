-- Answer texts: `s VALUE` and an `f SRC DST FLOW` line for each arc, as in the solutions of the first DIMACS challenge,
-- and then a `v ID POTENTIAL` line for each node; or an `i SHORTAGE` line, and then a `k ID` line for each node of a cut.
use Rattle.std.specs.Prelude.{◌≡◌, ℕ, ◌+◌, ◌-◌, ◌&&◌, List, [], ◌∷◌, ◌++◌, Option, Some, None, Result, Ok, Err, length, unwrap_or, nat_lt, ◌==◌, is_some, is_none, if◌then◌else◌, ℤ, pos, slice_index_or, bytes_eq, codes}
use Rattle.std.specs.List.{All, flat_map}
use Rattle.dimacs_lines.specs.declared.fault.LineFault.TheVariants as of_line
use Rattle.answer_text.specs.declared.answer_fault.AnswerFault.{AnswerFault}
use Rattle.answer_text.specs.declared.answer_fault.AnswerFault.TheVariants as fault
use Rattle.answer_text.specs.AnswerFault.{number_of, in_answer_line}
use Rattle.dimacs_lines.specs.declared.fault.LineError.{LineError}
use Rattle.dimacs_lines.specs.declared.fault.TextFault.{TextFault}
use Rattle.dimacs_lines.specs.Lines.{Line, lines_of}
use Rattle.dimacs_lines.specs.Fields.{Word, words_of, integer, claimed_value, IsNode, begins_comment, natural_value, integer_value, field, fields_of}
use Rattle.dimacs_lines.specs.Checks.{◌>>=◌, demand, some_or, numbered, has_fields, number_in, natural_in}
use Rattle.dimacs_lines.specs.Stream.{Rule, Reports, first_fault, fault_or, or_at}
use Rattle.answer_text.specs.declared.answer.Answer.{Answer}
use Rattle.answer_text.specs.declared.answer.Answer.TheVariants.{Flow, Cut}
use Rattle.answer_text.specs.declared.answer.FlowLine.{FlowLine}
use Rattle.answer_text.specs.declared.answer_line.AnswerLine.{AnswerLine}
use Rattle.answer_text.specs.declared.answer_line.AnswerLine.TheVariants as line

-- ---- a line by itself

-- what the first word makes of a line
abbrev pub line_of : Word → AnswerLine
line_of word =
    if begins_comment word then line.Comment else
    if bytes_eq word (codes "s") then line.Value else
    if bytes_eq word (codes "f") then line.Flow else
    if bytes_eq word (codes "v") then line.Potential else
    if bytes_eq word (codes "i") then line.Shortage else
    if bytes_eq word (codes "k") then line.CutNode else line.Unknown

abbrev pub answer_line_of : List Word → Option AnswerLine
answer_line_of [] = None
answer_line_of (word ∷ words) = Some (line_of word)

-- what the fields of a line say, where it has no fault
abbrev pub value_said : List Word → ℤ
value_said fields = unwrap_or (claimed_value (field 0 fields)) (pos 0)

abbrev pub flow_said : List Word → FlowLine
flow_said fields = record {
  tail = natural_value (field 0 fields);
  head = natural_value (field 1 fields);
  flow = pos (natural_value (field 2 fields));
}

abbrev pub potential_said : List Word → ℤ
potential_said fields = integer_value (field 1 fields)

abbrev pub shortage_said : List Word → ℤ
shortage_said fields = pos (natural_value (field 0 fields))

abbrev pub cut_node_said : List Word → ℕ
cut_node_said fields = natural_value (field 0 fields)

-- ---- what lines say

-- the value of the `s` line, and what the `f` and the `v` lines say, in order; the shortage of the `i` line, and the nodes
-- of the `k` lines, in order
pub record Said : Type 0 where
  pub value : Option ℤ
  pub flows : List FlowLine
  pub potentials : List ℤ
  pub shortage : Option ℤ
  pub cut : List ℕ

abbrev pub values_by : Option AnswerLine → List Word → List ℤ
values_by (Some line.Value) fields = value_said fields ∷ []
values_by _ fields = []

abbrev pub flows_by : Option AnswerLine → List Word → List FlowLine
flows_by (Some line.Flow) fields = flow_said fields ∷ []
flows_by _ fields = []

abbrev pub potentials_by : Option AnswerLine → List Word → List ℤ
potentials_by (Some line.Potential) fields = potential_said fields ∷ []
potentials_by _ fields = []

abbrev pub shortages_by : Option AnswerLine → List Word → List ℤ
shortages_by (Some line.Shortage) fields = shortage_said fields ∷ []
shortages_by _ fields = []

abbrev pub cut_by : Option AnswerLine → List Word → List ℕ
cut_by (Some line.CutNode) fields = cut_node_said fields ∷ []
cut_by _ fields = []

abbrev pub values_in : Line → List ℤ
values_in line = values_by (answer_line_of (words_of line)) (fields_of (words_of line))

abbrev pub flows_in : Line → List FlowLine
flows_in line = flows_by (answer_line_of (words_of line)) (fields_of (words_of line))

abbrev pub potentials_in : Line → List ℤ
potentials_in line = potentials_by (answer_line_of (words_of line)) (fields_of (words_of line))

abbrev pub shortages_in : Line → List ℤ
shortages_in line = shortages_by (answer_line_of (words_of line)) (fields_of (words_of line))

abbrev pub cut_in : Line → List ℕ
cut_in line = cut_by (answer_line_of (words_of line)) (fields_of (words_of line))

abbrev pub first_value : List ℤ → Option ℤ
first_value [] = None
first_value (value ∷ values) = Some value

unfoldable pub said_of : List Line → Said
said_of lines = record {
  value = first_value (flat_map values_in lines);
  flows = flat_map flows_in lines;
  potentials = flat_map potentials_in lines;
  shortage = first_value (flat_map shortages_in lines);
  cut = flat_map cut_in lines;
}

-- ---- a line among the lines before it

-- an `s` line: it comes first, and once
unfoldable pub read_value : Said → List Word → Result ℤ AnswerFault
read_value said fields = do
  _ ← demand (is_none said.value) fault.OutOfOrder
  _ ← demand (is_none said.shortage) fault.OutOfOrder
  _ ← in_answer_line (has_fields 1 fields)
  in_answer_line (some_or (claimed_value (field 0 fields)) of_line.NotANumber)

-- an `f` line: one an arc, after the `s` line
unfoldable pub read_flow : ℕ → ℕ → Said → List Word → Result FlowLine AnswerFault
read_flow nodes arcs said fields = do
  _ ← demand (is_some said.value) fault.OutOfOrder
  _ ← demand (nat_lt (length said.flows) arcs) fault.OutOfOrder
  _ ← in_answer_line (has_fields 3 fields)
  tail ← in_answer_line (natural_in 1 nodes (field 0 fields))
  head ← in_answer_line (natural_in 1 nodes (field 1 fields))
  flow ← in_answer_line (number_in (field 2 fields))
  Ok (record { tail = tail; head = head; flow = pos flow })

-- a `v` line: one a node, after all `f` lines, by rising ID
unfoldable pub read_potential : ℕ → ℕ → Said → List Word → Result ℤ AnswerFault
read_potential nodes arcs said fields = do
  _ ← demand (is_some said.value) fault.OutOfOrder
  _ ← demand (length said.flows == arcs) fault.OutOfOrder
  _ ← demand (nat_lt (length said.potentials) nodes) fault.OutOfOrder
  _ ← in_answer_line (has_fields 2 fields)
  id ← in_answer_line (natural_in 1 nodes (field 0 fields))
  potential ← in_answer_line (some_or (integer (field 1 fields)) of_line.NotANumber)
  _ ← demand (id == length said.potentials + 1) fault.OutOfOrder
  Ok potential

-- an `i` line: it comes first, and once
unfoldable pub read_shortage : Said → List Word → Result ℤ AnswerFault
read_shortage said fields = do
  _ ← demand (is_none said.value) fault.OutOfOrder
  _ ← demand (is_none said.shortage) fault.OutOfOrder
  _ ← in_answer_line (has_fields 1 fields)
  shortage ← in_answer_line (number_in (field 0 fields))
  Ok (pos shortage)

-- the last node of a cut, or 0, which is no node
abbrev pub last_node : List ℕ → ℕ
last_node cut = slice_index_or cut (length cut - 1) 0

-- a `k` line: after the `i` line, by rising ID
unfoldable pub read_cut_node : ℕ → Said → List Word → Result ℕ AnswerFault
read_cut_node nodes said fields = do
  _ ← demand (is_some said.shortage) fault.OutOfOrder
  _ ← in_answer_line (has_fields 1 fields)
  id ← in_answer_line (natural_in 1 nodes (field 0 fields))
  _ ← demand (nat_lt (last_node said.cut) id) fault.OutOfOrder
  Ok id

-- the number of the fault, if there is one
abbrev pub answer_fault_of : {A : Type 0} → Result A AnswerFault → Option ℕ
answer_fault_of (Ok x) = None
answer_fault_of (Err fault) = Some (number_of fault)

-- the number of the fault of a line that is not too long, by its words
abbrev pub answer_fault_by : ℕ → ℕ → Said → Option AnswerLine → List Word → Option ℕ
answer_fault_by nodes arcs said None fields = None
answer_fault_by nodes arcs said (Some line.Comment) fields = None
answer_fault_by nodes arcs said (Some line.Value) fields = answer_fault_of (read_value said fields)
answer_fault_by nodes arcs said (Some line.Flow) fields = answer_fault_of (read_flow nodes arcs said fields)
answer_fault_by nodes arcs said (Some line.Potential) fields = answer_fault_of (read_potential nodes arcs said fields)
answer_fault_by nodes arcs said (Some line.Shortage) fields = answer_fault_of (read_shortage said fields)
answer_fault_by nodes arcs said (Some line.CutNode) fields = answer_fault_of (read_cut_node nodes said fields)
answer_fault_by nodes arcs said (Some line.Unknown) fields = Some (number_of (fault.Line of_line.UnknownDesignator))

abbrev pub answer_line_fault : ℕ → ℕ → Said → Line → Option ℕ
answer_line_fault nodes arcs said line = answer_fault_by nodes arcs said (answer_line_of (words_of line)) (fields_of (words_of line))

-- the number of the fault of a line that fits, by itself and what the lines before it say
abbrev pub answer_rule : ℕ → ℕ → Rule
answer_rule nodes arcs before line = answer_line_fault nodes arcs (said_of before) line

-- ---- the whole text

-- what lines without a fault give at the end of the text, where the first is an `s` line: no line is missing
abbrev pub flow_ending : ℕ → ℕ → Option ℤ → Said → Result Answer AnswerFault
flow_ending nodes arcs None said = Err fault.OutOfOrder
flow_ending nodes arcs (Some value) said =
    if length said.flows == arcs && length said.potentials == nodes then Ok (Flow value said.flows said.potentials) else Err fault.OutOfOrder

-- the same, where the first may be an `i` line: after it no line is missing
abbrev pub answer_ending_by : ℕ → ℕ → Option ℤ → Said → Result Answer AnswerFault
answer_ending_by nodes arcs None said = flow_ending nodes arcs said.value said
answer_ending_by nodes arcs (Some shortage) said = Ok (Cut shortage said.cut)

abbrev pub answer_ending : ℕ → ℕ → Said → Result Answer AnswerFault
answer_ending nodes arcs said = answer_ending_by nodes arcs said.shortage said

-- the nodes that an answer names are those of its problem
abbrev pub JoinsNodes : ℕ → FlowLine → Type 0
JoinsNodes nodes line = IsNode nodes line.tail × IsNode nodes line.head

abbrev pub NamesNodes : ℕ → Answer → Type 0
NamesNodes nodes (Flow value flows potentials) = All (JoinsNodes nodes) flows
NamesNodes nodes (Cut shortage cut) = All (IsNode nodes) cut

-- an `f` line for each arc and a `v` line for each node
pub record IsWhole (nodes arcs : ℕ) (flows : List FlowLine) (potentials : List ℤ) : Type 0 where
  pub each_arc : length flows ≡ arcs
  pub each_node : length potentials ≡ nodes
  pub ends : All (JoinsNodes nodes) flows

-- the answer fits a problem of this size
abbrev pub FitsSize : ℕ → ℕ → Answer → Type 0
FitsSize nodes arcs (Flow value flows potentials) = IsWhole nodes arcs flows potentials
FitsSize nodes arcs (Cut shortage cut) = All (IsNode nodes) cut

-- the answer of lines without a fault, or the fault at their end with their number
abbrev pub answer_end : ℕ → ℕ → List Line → Result Answer TextFault
answer_end nodes arcs lines = or_at (numbered number_of (answer_ending nodes arcs (said_of lines))) (length lines)

-- the first faulty line, or the fault at the end with the number of lines, or the answer
unfoldable pub answers : ℕ → ℕ → List ℕ → Result Answer TextFault
answers nodes arcs text = fault_or (first_fault (answer_rule nodes arcs) [] (lines_of text)) (answer_end nodes arcs (lines_of text))

-- ---- what is held of lines

-- what lines say, beside the size of the problem that they answer
pub record Drafted : Type 0 where
  pub nodes : ℕ
  pub arcs : ℕ
  pub said : Said

-- what lines say with one line more
abbrev pub or_value : Option ℤ → List ℤ → Option ℤ
or_value None values = first_value values
or_value (Some value) values = Some value

unfoldable pub and_said : Said → Line → Said
and_said said line = record {
  value = or_value said.value (values_in line);
  flows = said.flows ++ flows_in line;
  potentials = said.potentials ++ potentials_in line;
  shortage = or_value said.shortage (shortages_in line);
  cut = said.cut ++ cut_in line;
}

-- what was taken is without a fault, and held as expected; or its fault is told, or want of memory where it has none
abbrev pub TakesAnswerAs : Result (Unit {0}) LineError → Option ℕ → Drafted → Said → Drafted → Type 0
TakesAnswerAs (Ok _) found old expected new = (found ≡ None) × (new ≡ record old { said = expected })
TakesAnswerAs (Err e) found old expected new = Reports e found

-- a line was taken
abbrev pub TakesAnswerLine : Result (Unit {0}) LineError → Line → Drafted → Drafted → Type 0
TakesAnswerLine result line old new = TakesAnswerAs result (answer_line_fault old.nodes old.arcs old.said line) old (and_said old.said line) new
