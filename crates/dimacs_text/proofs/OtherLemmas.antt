-- No check of a problem text but that of its length says that a line is too long.
use Rattle.std.proofs.Common.{◌≡◌, ◌≢◌, ℕ, Bool, true, false, cond, not, ◌&&◌, ◌||◌, List, length, Option, Some, None, Result, Ok, Err, pos, arith}
use Rattle.std.specs.Prelude.{nat_le, nat_lt, ◌==◌, is_none}
use Rattle.dimacs_lines.specs.declared.fault.LineFault.{LineFault}
use Rattle.dimacs_text.specs.declared.problem_fault.ProblemFault.{ProblemFault}
use Rattle.dimacs_text.specs.declared.problem_fault.ProblemFault.TheVariants as fault
use Rattle.dimacs_lines.specs.declared.fault.TextFault.{TextFault}
use Rattle.dimacs_lines.specs.declared.fault.TextFault.TheVariants as text_fault
use Rattle.dimacs_text.specs.declared.problem.Kind.{Kind}
use Rattle.dimacs_text.specs.declared.problem.Kind.TheVariants.{Min, Max, Asn}
use Rattle.dimacs_text.specs.declared.problem.NodeMark.{NodeMark}
use Rattle.dimacs_text.specs.declared.problem.NodeMark.TheVariants.{Supply, Source, Sink, Side}
use Rattle.dimacs_text.specs.declared.problem.Size.{Size}
use Rattle.dimacs_text.specs.declared.problem.TheConstants.{NODE_LIMIT, ARC_LIMIT, CAP_LIMIT, COST_LIMIT, SUPPLY_LIMIT}
use Rattle.dimacs_text.specs.declared.designator.Designator.{Designator}
use Rattle.dimacs_text.specs.declared.designator.Designator.TheVariants as designator
use Rattle.dimacs_lines.specs.Fault.{number_of as number_in_line}
use Rattle.dimacs_text.specs.ProblemFault.{number_of, in_line}
use Rattle.dimacs_lines.specs.Lines.{Line}
use Rattle.dimacs_lines.specs.Fields.{Word, words_of, field, fields_of}
use Rattle.dimacs_lines.specs.Checks.{◌>>=◌, demand, some_or, numbered, has_fields, natural_in, integer_in}
use Rattle.dimacs_lines.proofs.OtherLemmas.{IsOther, bind_other, demand_other, some_or_other, has_fields_other, natural_in_other, integer_in_other}
use Rattle.dimacs_text.specs.Problem.{Parsed, parsed_of, kind_named, kind_in, is_source_word, is_sink_word, has_source, has_sink, has_terminals, terminal_by, read_size, read_mark, read_mark_of, read_supply, read_terminal, read_side, read_row, read_row_of, read_min_row, read_max_row, read_asn_row, is_named, fault_of, fault_by, first_of}
use Rattle.dimacs_lines.specs.Stream.{at_line, or_at}
use Rattle.dimacs_text.specs.Reading.{ProblemValue, ending_by, problem_rule, problem_end}

in_line_other : {A : Type 0} (r : Result A LineFault) → IsOther number_in_line r → IsOther number_of (in_line r)
in_line_other (Ok x) h = tt
in_line_other (Err e) h = h

kind_in_other : (word : Word) → IsOther number_of (kind_in word)
kind_in_other word = some_or_other number_of (kind_named word) fault.UnknownKind (λ h. absurd (omega arith))

read_size_other : (told : Parsed) (fields : List Word) → IsOther number_of (read_size told fields)
unfolding read_size
read_size_other told fields =
    bind_other number_of (demand (is_none told.size) fault.SecondProblemLine) (λ _. in_line (has_fields 3 fields) >>= λ _. kind_in (field 0 fields) >>= λ kind. in_line (natural_in 1 NODE_LIMIT (field 1 fields)) >>= λ nodes. in_line (natural_in 0 ARC_LIMIT (field 2 fields)) >>= λ arcs. Ok (record { kind = kind; nodes = nodes; arcs = arcs })) (demand_other number_of _ fault.SecondProblemLine (λ h. absurd (omega arith))) (λ _.
    bind_other number_of (in_line (has_fields 3 fields)) (λ _. kind_in (field 0 fields) >>= λ kind. in_line (natural_in 1 NODE_LIMIT (field 1 fields)) >>= λ nodes. in_line (natural_in 0 ARC_LIMIT (field 2 fields)) >>= λ arcs. Ok (record { kind = kind; nodes = nodes; arcs = arcs })) (in_line_other (has_fields 3 fields) (has_fields_other 3 fields)) (λ _.
    bind_other number_of (kind_in (field 0 fields)) (λ kind. in_line (natural_in 1 NODE_LIMIT (field 1 fields)) >>= λ nodes. in_line (natural_in 0 ARC_LIMIT (field 2 fields)) >>= λ arcs. Ok (record { kind = kind; nodes = nodes; arcs = arcs })) (kind_in_other (field 0 fields)) (λ kind.
    bind_other number_of (in_line (natural_in 1 NODE_LIMIT (field 1 fields))) (λ nodes. in_line (natural_in 0 ARC_LIMIT (field 2 fields)) >>= λ arcs. Ok (record { kind = kind; nodes = nodes; arcs = arcs })) (in_line_other (natural_in 1 NODE_LIMIT (field 1 fields)) (natural_in_other 1 NODE_LIMIT (field 1 fields))) (λ nodes.
    bind_other number_of (in_line (natural_in 0 ARC_LIMIT (field 2 fields))) (λ arcs. Ok (record { kind = kind; nodes = nodes; arcs = arcs })) (in_line_other (natural_in 0 ARC_LIMIT (field 2 fields)) (natural_in_other 0 ARC_LIMIT (field 2 fields))) (λ arcs.
    tt)))))

read_supply_other : (nodes : ℕ) (marks : List NodeMark) (fields : List Word) → IsOther number_of (read_supply nodes marks fields)
unfolding read_supply
read_supply_other nodes marks fields =
    bind_other number_of (in_line (has_fields 2 fields)) (λ _. in_line (natural_in 1 nodes (field 0 fields)) >>= λ id. in_line (integer_in SUPPLY_LIMIT (field 1 fields)) >>= λ value. demand (not (is_named id marks)) fault.NamedTwice >>= λ _. Ok (Supply id value)) (in_line_other (has_fields 2 fields) (has_fields_other 2 fields)) (λ _.
    bind_other number_of (in_line (natural_in 1 nodes (field 0 fields))) (λ id. in_line (integer_in SUPPLY_LIMIT (field 1 fields)) >>= λ value. demand (not (is_named id marks)) fault.NamedTwice >>= λ _. Ok (Supply id value)) (in_line_other (natural_in 1 nodes (field 0 fields)) (natural_in_other 1 nodes (field 0 fields))) (λ id.
    bind_other number_of (in_line (integer_in SUPPLY_LIMIT (field 1 fields))) (λ value. demand (not (is_named id marks)) fault.NamedTwice >>= λ _. Ok (Supply id value)) (in_line_other (integer_in SUPPLY_LIMIT (field 1 fields)) (integer_in_other SUPPLY_LIMIT (field 1 fields))) (λ value.
    bind_other number_of (demand (not (is_named id marks)) fault.NamedTwice) (λ _. Ok (Supply id value)) (demand_other number_of _ fault.NamedTwice (λ h. absurd (omega arith))) (λ _.
    tt))))

terminal_by_other : (source : Bool) (id : ℕ) (marks : List NodeMark) → IsOther number_of (terminal_by source id marks)
terminal_by_other true id marks = bind_other number_of (demand (not (has_source marks)) fault.NamedTwice) (λ _. Ok (Source id)) (demand_other number_of _ fault.NamedTwice (λ h. absurd (omega arith))) (λ _. tt)
terminal_by_other false id marks = bind_other number_of (demand (not (has_sink marks)) fault.NamedTwice) (λ _. Ok (Sink id)) (demand_other number_of _ fault.NamedTwice (λ h. absurd (omega arith))) (λ _. tt)

read_terminal_other : (nodes : ℕ) (marks : List NodeMark) (fields : List Word) → IsOther number_of (read_terminal nodes marks fields)
unfolding read_terminal
read_terminal_other nodes marks fields =
    bind_other number_of (in_line (has_fields 2 fields)) (λ _. in_line (natural_in 1 nodes (field 0 fields)) >>= λ id. demand (is_source_word (field 1 fields) || is_sink_word (field 1 fields)) fault.UnknownNodeWord >>= λ _. demand (not (is_named id marks)) fault.NamedTwice >>= λ _. terminal_by (is_source_word (field 1 fields)) id marks) (in_line_other (has_fields 2 fields) (has_fields_other 2 fields)) (λ _.
    bind_other number_of (in_line (natural_in 1 nodes (field 0 fields))) (λ id. demand (is_source_word (field 1 fields) || is_sink_word (field 1 fields)) fault.UnknownNodeWord >>= λ _. demand (not (is_named id marks)) fault.NamedTwice >>= λ _. terminal_by (is_source_word (field 1 fields)) id marks) (in_line_other (natural_in 1 nodes (field 0 fields)) (natural_in_other 1 nodes (field 0 fields))) (λ id.
    bind_other number_of (demand (is_source_word (field 1 fields) || is_sink_word (field 1 fields)) fault.UnknownNodeWord) (λ _. demand (not (is_named id marks)) fault.NamedTwice >>= λ _. terminal_by (is_source_word (field 1 fields)) id marks) (demand_other number_of _ fault.UnknownNodeWord (λ h. absurd (omega arith))) (λ _.
    bind_other number_of (demand (not (is_named id marks)) fault.NamedTwice) (λ _. terminal_by (is_source_word (field 1 fields)) id marks) (demand_other number_of _ fault.NamedTwice (λ h. absurd (omega arith))) (λ _.
    terminal_by_other (is_source_word (field 1 fields)) id marks))))

read_side_other : (nodes : ℕ) (marks : List NodeMark) (fields : List Word) → IsOther number_of (read_side nodes marks fields)
unfolding read_side
read_side_other nodes marks fields =
    bind_other number_of (in_line (has_fields 1 fields)) (λ _. in_line (natural_in 1 nodes (field 0 fields)) >>= λ id. demand (not (is_named id marks)) fault.NamedTwice >>= λ _. Ok (Side id)) (in_line_other (has_fields 1 fields) (has_fields_other 1 fields)) (λ _.
    bind_other number_of (in_line (natural_in 1 nodes (field 0 fields))) (λ id. demand (not (is_named id marks)) fault.NamedTwice >>= λ _. Ok (Side id)) (in_line_other (natural_in 1 nodes (field 0 fields)) (natural_in_other 1 nodes (field 0 fields))) (λ id.
    bind_other number_of (demand (not (is_named id marks)) fault.NamedTwice) (λ _. Ok (Side id)) (demand_other number_of _ fault.NamedTwice (λ h. absurd (omega arith))) (λ _.
    tt)))

read_mark_of_other : (kind : Kind) (nodes : ℕ) (marks : List NodeMark) (fields : List Word) → IsOther number_of (read_mark_of kind nodes marks fields)
read_mark_of_other Min nodes marks fields = read_supply_other nodes marks fields
read_mark_of_other Max nodes marks fields = read_terminal_other nodes marks fields
read_mark_of_other Asn nodes marks fields = read_side_other nodes marks fields

read_mark_other : (told : Parsed) (fields : List Word) → IsOther number_of (read_mark told fields)
unfolding read_mark
read_mark_other told fields =
    bind_other number_of (some_or told.size fault.BeforeProblemLine) (λ size. demand (length told.rows == 0) fault.NodeAfterArc >>= λ _. read_mark_of size.kind size.nodes told.marks fields) (some_or_other number_of told.size fault.BeforeProblemLine (λ h. absurd (omega arith))) (λ size.
    bind_other number_of (demand (length told.rows == 0) fault.NodeAfterArc) (λ _. read_mark_of size.kind size.nodes told.marks fields) (demand_other number_of _ fault.NodeAfterArc (λ h. absurd (omega arith))) (λ _.
    read_mark_of_other size.kind size.nodes told.marks fields))

read_min_row_other : (nodes : ℕ) (fields : List Word) → IsOther number_of (read_min_row nodes fields)
unfolding read_min_row
read_min_row_other nodes fields =
    bind_other number_of (in_line (has_fields 5 fields)) (λ _. in_line (natural_in 1 nodes (field 0 fields)) >>= λ tail. in_line (natural_in 1 nodes (field 1 fields)) >>= λ head. in_line (natural_in 0 CAP_LIMIT (field 2 fields)) >>= λ low. in_line (natural_in 0 CAP_LIMIT (field 3 fields)) >>= λ cap. in_line (integer_in COST_LIMIT (field 4 fields)) >>= λ cost. demand (nat_le low cap) fault.LowAboveCap >>= λ _. Ok (record { tail = tail; head = head; low = pos low; cap = pos cap; cost = cost })) (in_line_other (has_fields 5 fields) (has_fields_other 5 fields)) (λ _.
    bind_other number_of (in_line (natural_in 1 nodes (field 0 fields))) (λ tail. in_line (natural_in 1 nodes (field 1 fields)) >>= λ head. in_line (natural_in 0 CAP_LIMIT (field 2 fields)) >>= λ low. in_line (natural_in 0 CAP_LIMIT (field 3 fields)) >>= λ cap. in_line (integer_in COST_LIMIT (field 4 fields)) >>= λ cost. demand (nat_le low cap) fault.LowAboveCap >>= λ _. Ok (record { tail = tail; head = head; low = pos low; cap = pos cap; cost = cost })) (in_line_other (natural_in 1 nodes (field 0 fields)) (natural_in_other 1 nodes (field 0 fields))) (λ tail.
    bind_other number_of (in_line (natural_in 1 nodes (field 1 fields))) (λ head. in_line (natural_in 0 CAP_LIMIT (field 2 fields)) >>= λ low. in_line (natural_in 0 CAP_LIMIT (field 3 fields)) >>= λ cap. in_line (integer_in COST_LIMIT (field 4 fields)) >>= λ cost. demand (nat_le low cap) fault.LowAboveCap >>= λ _. Ok (record { tail = tail; head = head; low = pos low; cap = pos cap; cost = cost })) (in_line_other (natural_in 1 nodes (field 1 fields)) (natural_in_other 1 nodes (field 1 fields))) (λ head.
    bind_other number_of (in_line (natural_in 0 CAP_LIMIT (field 2 fields))) (λ low. in_line (natural_in 0 CAP_LIMIT (field 3 fields)) >>= λ cap. in_line (integer_in COST_LIMIT (field 4 fields)) >>= λ cost. demand (nat_le low cap) fault.LowAboveCap >>= λ _. Ok (record { tail = tail; head = head; low = pos low; cap = pos cap; cost = cost })) (in_line_other (natural_in 0 CAP_LIMIT (field 2 fields)) (natural_in_other 0 CAP_LIMIT (field 2 fields))) (λ low.
    bind_other number_of (in_line (natural_in 0 CAP_LIMIT (field 3 fields))) (λ cap. in_line (integer_in COST_LIMIT (field 4 fields)) >>= λ cost. demand (nat_le low cap) fault.LowAboveCap >>= λ _. Ok (record { tail = tail; head = head; low = pos low; cap = pos cap; cost = cost })) (in_line_other (natural_in 0 CAP_LIMIT (field 3 fields)) (natural_in_other 0 CAP_LIMIT (field 3 fields))) (λ cap.
    bind_other number_of (in_line (integer_in COST_LIMIT (field 4 fields))) (λ cost. demand (nat_le low cap) fault.LowAboveCap >>= λ _. Ok (record { tail = tail; head = head; low = pos low; cap = pos cap; cost = cost })) (in_line_other (integer_in COST_LIMIT (field 4 fields)) (integer_in_other COST_LIMIT (field 4 fields))) (λ cost.
    bind_other number_of (demand (nat_le low cap) fault.LowAboveCap) (λ _. Ok (record { tail = tail; head = head; low = pos low; cap = pos cap; cost = cost })) (demand_other number_of _ fault.LowAboveCap (λ h. absurd (omega arith))) (λ _.
    tt)))))))

read_max_row_other : (nodes : ℕ) (fields : List Word) → IsOther number_of (read_max_row nodes fields)
unfolding read_max_row
read_max_row_other nodes fields =
    bind_other number_of (in_line (has_fields 3 fields)) (λ _. in_line (natural_in 1 nodes (field 0 fields)) >>= λ tail. in_line (natural_in 1 nodes (field 1 fields)) >>= λ head. in_line (natural_in 0 CAP_LIMIT (field 2 fields)) >>= λ cap. Ok (record { tail = tail; head = head; low = pos 0; cap = pos cap; cost = pos 0 })) (in_line_other (has_fields 3 fields) (has_fields_other 3 fields)) (λ _.
    bind_other number_of (in_line (natural_in 1 nodes (field 0 fields))) (λ tail. in_line (natural_in 1 nodes (field 1 fields)) >>= λ head. in_line (natural_in 0 CAP_LIMIT (field 2 fields)) >>= λ cap. Ok (record { tail = tail; head = head; low = pos 0; cap = pos cap; cost = pos 0 })) (in_line_other (natural_in 1 nodes (field 0 fields)) (natural_in_other 1 nodes (field 0 fields))) (λ tail.
    bind_other number_of (in_line (natural_in 1 nodes (field 1 fields))) (λ head. in_line (natural_in 0 CAP_LIMIT (field 2 fields)) >>= λ cap. Ok (record { tail = tail; head = head; low = pos 0; cap = pos cap; cost = pos 0 })) (in_line_other (natural_in 1 nodes (field 1 fields)) (natural_in_other 1 nodes (field 1 fields))) (λ head.
    bind_other number_of (in_line (natural_in 0 CAP_LIMIT (field 2 fields))) (λ cap. Ok (record { tail = tail; head = head; low = pos 0; cap = pos cap; cost = pos 0 })) (in_line_other (natural_in 0 CAP_LIMIT (field 2 fields)) (natural_in_other 0 CAP_LIMIT (field 2 fields))) (λ cap.
    tt))))

read_asn_row_other : (nodes : ℕ) (marks : List NodeMark) (fields : List Word) → IsOther number_of (read_asn_row nodes marks fields)
unfolding read_asn_row
read_asn_row_other nodes marks fields =
    bind_other number_of (in_line (has_fields 3 fields)) (λ _. in_line (natural_in 1 nodes (field 0 fields)) >>= λ tail. in_line (natural_in 1 nodes (field 1 fields)) >>= λ head. in_line (integer_in COST_LIMIT (field 2 fields)) >>= λ cost. demand (is_named tail marks && not (is_named head marks)) fault.NotAcrossSides >>= λ _. Ok (record { tail = tail; head = head; low = pos 0; cap = pos 1; cost = cost })) (in_line_other (has_fields 3 fields) (has_fields_other 3 fields)) (λ _.
    bind_other number_of (in_line (natural_in 1 nodes (field 0 fields))) (λ tail. in_line (natural_in 1 nodes (field 1 fields)) >>= λ head. in_line (integer_in COST_LIMIT (field 2 fields)) >>= λ cost. demand (is_named tail marks && not (is_named head marks)) fault.NotAcrossSides >>= λ _. Ok (record { tail = tail; head = head; low = pos 0; cap = pos 1; cost = cost })) (in_line_other (natural_in 1 nodes (field 0 fields)) (natural_in_other 1 nodes (field 0 fields))) (λ tail.
    bind_other number_of (in_line (natural_in 1 nodes (field 1 fields))) (λ head. in_line (integer_in COST_LIMIT (field 2 fields)) >>= λ cost. demand (is_named tail marks && not (is_named head marks)) fault.NotAcrossSides >>= λ _. Ok (record { tail = tail; head = head; low = pos 0; cap = pos 1; cost = cost })) (in_line_other (natural_in 1 nodes (field 1 fields)) (natural_in_other 1 nodes (field 1 fields))) (λ head.
    bind_other number_of (in_line (integer_in COST_LIMIT (field 2 fields))) (λ cost. demand (is_named tail marks && not (is_named head marks)) fault.NotAcrossSides >>= λ _. Ok (record { tail = tail; head = head; low = pos 0; cap = pos 1; cost = cost })) (in_line_other (integer_in COST_LIMIT (field 2 fields)) (integer_in_other COST_LIMIT (field 2 fields))) (λ cost.
    bind_other number_of (demand (is_named tail marks && not (is_named head marks)) fault.NotAcrossSides) (λ _. Ok (record { tail = tail; head = head; low = pos 0; cap = pos 1; cost = cost })) (demand_other number_of _ fault.NotAcrossSides (λ h. absurd (omega arith))) (λ _.
    tt)))))

read_row_of_other : (kind : Kind) (nodes : ℕ) (marks : List NodeMark) (fields : List Word) → IsOther number_of (read_row_of kind nodes marks fields)
read_row_of_other Min nodes marks fields = read_min_row_other nodes fields
read_row_of_other Max nodes marks fields = read_max_row_other nodes fields
read_row_of_other Asn nodes marks fields = read_asn_row_other nodes marks fields

read_row_other : (told : Parsed) (fields : List Word) → IsOther number_of (read_row told fields)
unfolding read_row
read_row_other told fields =
    bind_other number_of (some_or told.size fault.BeforeProblemLine) (λ size. demand (has_terminals size.kind told.marks) fault.EndpointMissing >>= λ _. demand (nat_lt (length told.rows) size.arcs) fault.TooManyArcs >>= λ _. read_row_of size.kind size.nodes told.marks fields) (some_or_other number_of told.size fault.BeforeProblemLine (λ h. absurd (omega arith))) (λ size.
    bind_other number_of (demand (has_terminals size.kind told.marks) fault.EndpointMissing) (λ _. demand (nat_lt (length told.rows) size.arcs) fault.TooManyArcs >>= λ _. read_row_of size.kind size.nodes told.marks fields) (demand_other number_of _ fault.EndpointMissing (λ h. absurd (omega arith))) (λ _.
    bind_other number_of (demand (nat_lt (length told.rows) size.arcs) fault.TooManyArcs) (λ _. read_row_of size.kind size.nodes told.marks fields) (demand_other number_of _ fault.TooManyArcs (λ h. absurd (omega arith))) (λ _.
    read_row_of_other size.kind size.nodes told.marks fields)))

fault_other : {A : Type 0} (r : Result A ProblemFault) → IsOther number_of r → fault_of r ≢ Some 1
fault_other (Ok x) h = λ e. cc
fault_other (Err f) h = λ e. h cc

fault_by_other : (told : Parsed) (first : Option Designator) (fields : List Word) → fault_by told first fields ≢ Some 1
fault_by_other told None fields = λ e. cc
fault_by_other told (Some designator.Comment) fields = λ e. cc
fault_by_other told (Some designator.Problem) fields = fault_other (read_size told fields) (read_size_other told fields)
fault_by_other told (Some designator.Node) fields = fault_other (read_mark told fields) (read_mark_other told fields)
fault_by_other told (Some designator.Arc) fields = fault_other (read_row told fields) (read_row_other told fields)
fault_by_other told (Some designator.Unknown) fields = λ e. cc

-- ---- nor does the end of a text

number_is : (number : ℕ) (line other : ℕ) → ◌≡◌ {A = Result ProblemValue TextFault} (Err (at_line number line)) (Err (text_fault.Fault 1 other)) → number ≡ 1
number_is number line other e = cc

end_by : (named few : Bool) (value : ProblemValue) (line other : ℕ) → or_at (numbered number_of (cond (not named) (Err fault.EndpointMissing) (cond few (Err fault.TooFewArcs) (Ok value)))) line ≢ Err (text_fault.Fault 1 other)
end_by false few value line other = λ e. absurd (omega (arith, number_is (number_of fault.EndpointMissing) line other e))
end_by true true value line other = λ e. absurd (omega (arith, number_is (number_of fault.TooFewArcs) line other e))
end_by true false value line other = λ e. cc

ending_other : (size : Option Size) (told : Parsed) (line other : ℕ) → or_at (numbered number_of (ending_by size told)) line ≢ Err (text_fault.Fault 1 other)
ending_other None told line other = λ e. absurd (omega (arith, number_is (number_of fault.NoProblemLine) line other e))
ending_other (Some size) told line other = end_by (has_terminals size.kind told.marks) (nat_lt (length told.rows) size.arcs) _ line other

pub rule_other : (before : List Line) (line : Line) → problem_rule before line ≢ Some 1
rule_other before line = fault_by_other (parsed_of before) (first_of (words_of line)) (fields_of (words_of line))

pub end_other : (lines : List Line) (other : ℕ) → problem_end lines ≢ Err (text_fault.Fault 1 other)
end_other lines other = ending_other (parsed_of lines).size (parsed_of lines) (length lines) other
