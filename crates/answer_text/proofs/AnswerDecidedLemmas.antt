-- No check of an answer text but that of its length says that a line is too long.
use Rattle.std.proofs.Common.{◌≡◌, ◌≢◌, ℕ, ◌+◌, Bool, true, false, cond, ◌&&◌, List, length, Option, Some, None, Result, Ok, Err, ℤ, pos, arith}
use Rattle.std.specs.Prelude.{nat_lt, ◌==◌, is_some, is_none}
use Rattle.dimacs_lines.specs.declared.fault.LineFault.{LineFault}
use Rattle.dimacs_lines.specs.declared.fault.LineFault.TheVariants as of_line
use Rattle.answer_text.specs.declared.answer_fault.AnswerFault.{AnswerFault}
use Rattle.answer_text.specs.declared.answer_fault.AnswerFault.TheVariants as fault
use Rattle.dimacs_lines.specs.declared.fault.TextFault.{TextFault}
use Rattle.dimacs_lines.specs.declared.fault.TextFault.TheVariants as text_fault
use Rattle.answer_text.specs.declared.answer.Answer.{Answer}
use Rattle.answer_text.specs.declared.answer_line.AnswerLine.{AnswerLine}
use Rattle.answer_text.specs.declared.answer_line.AnswerLine.TheVariants as line
use Rattle.dimacs_lines.specs.Fault.{number_of as number_in_line}
use Rattle.answer_text.specs.AnswerFault.{number_of, in_answer_line}
use Rattle.dimacs_lines.specs.Lines.{Line}
use Rattle.dimacs_lines.specs.Fields.{Word, integer, words_of, claimed_value, field, fields_of}
use Rattle.dimacs_lines.specs.Checks.{◌>>=◌, demand, some_or, numbered, has_fields, number_in, natural_in}
use Rattle.dimacs_lines.specs.Stream.{at_line, or_at}
use Rattle.answer_text.specs.Answer.{answer_fault_of, Said, said_of, answer_line_of, last_node, read_value, read_flow, read_potential, read_shortage, read_cut_node, answer_fault_by, flow_ending, answer_ending_by, answer_rule, answer_end}
use Rattle.dimacs_lines.proofs.OtherLemmas.{IsOther, bind_other, demand_other, some_or_other, has_fields_other, number_in_other, natural_in_other}

in_line_other : {A : Type 0} (r : Result A LineFault) → IsOther number_in_line r → IsOther number_of (in_answer_line r)
in_line_other (Ok x) h = tt
in_line_other (Err e) h = h

fault_other : {A : Type 0} (r : Result A AnswerFault) → IsOther number_of r → answer_fault_of r ≢ Some 1
fault_other (Ok x) h = λ e. cc
fault_other (Err f) h = λ e. h cc

read_value_other : (said : Said) (fields : List Word) → IsOther number_of (read_value said fields)
unfolding read_value
read_value_other said fields =
    bind_other number_of (demand (is_none said.value) fault.OutOfOrder) (λ _. demand (is_none said.shortage) fault.OutOfOrder >>= λ _. in_answer_line (has_fields 1 fields) >>= λ _. in_answer_line (some_or (claimed_value (field 0 fields)) of_line.NotANumber)) (demand_other number_of _ fault.OutOfOrder (λ h. absurd (omega arith))) (λ _.
    bind_other number_of (demand (is_none said.shortage) fault.OutOfOrder) (λ _. in_answer_line (has_fields 1 fields) >>= λ _. in_answer_line (some_or (claimed_value (field 0 fields)) of_line.NotANumber)) (demand_other number_of _ fault.OutOfOrder (λ h. absurd (omega arith))) (λ _.
    bind_other number_of (in_answer_line (has_fields 1 fields)) (λ _. in_answer_line (some_or (claimed_value (field 0 fields)) of_line.NotANumber)) (in_line_other (has_fields 1 fields) (has_fields_other 1 fields)) (λ _.
    in_line_other (some_or (claimed_value (field 0 fields)) of_line.NotANumber) (some_or_other number_in_line (claimed_value (field 0 fields)) of_line.NotANumber (λ h. absurd (omega arith))))))

read_flow_other : (nodes arcs : ℕ) (said : Said) (fields : List Word) → IsOther number_of (read_flow nodes arcs said fields)
unfolding read_flow
read_flow_other nodes arcs said fields =
    bind_other number_of (demand (is_some said.value) fault.OutOfOrder) (λ _. demand (nat_lt (length said.flows) arcs) fault.OutOfOrder >>= λ _. in_answer_line (has_fields 3 fields) >>= λ _. in_answer_line (natural_in 1 nodes (field 0 fields)) >>= λ tail. in_answer_line (natural_in 1 nodes (field 1 fields)) >>= λ head. in_answer_line (number_in (field 2 fields)) >>= λ flow. Ok (record { tail = tail; head = head; flow = pos flow })) (demand_other number_of _ fault.OutOfOrder (λ h. absurd (omega arith))) (λ _.
    bind_other number_of (demand (nat_lt (length said.flows) arcs) fault.OutOfOrder) (λ _. in_answer_line (has_fields 3 fields) >>= λ _. in_answer_line (natural_in 1 nodes (field 0 fields)) >>= λ tail. in_answer_line (natural_in 1 nodes (field 1 fields)) >>= λ head. in_answer_line (number_in (field 2 fields)) >>= λ flow. Ok (record { tail = tail; head = head; flow = pos flow })) (demand_other number_of _ fault.OutOfOrder (λ h. absurd (omega arith))) (λ _.
    bind_other number_of (in_answer_line (has_fields 3 fields)) (λ _. in_answer_line (natural_in 1 nodes (field 0 fields)) >>= λ tail. in_answer_line (natural_in 1 nodes (field 1 fields)) >>= λ head. in_answer_line (number_in (field 2 fields)) >>= λ flow. Ok (record { tail = tail; head = head; flow = pos flow })) (in_line_other (has_fields 3 fields) (has_fields_other 3 fields)) (λ _.
    bind_other number_of (in_answer_line (natural_in 1 nodes (field 0 fields))) (λ tail. in_answer_line (natural_in 1 nodes (field 1 fields)) >>= λ head. in_answer_line (number_in (field 2 fields)) >>= λ flow. Ok (record { tail = tail; head = head; flow = pos flow })) (in_line_other (natural_in 1 nodes (field 0 fields)) (natural_in_other 1 nodes (field 0 fields))) (λ tail.
    bind_other number_of (in_answer_line (natural_in 1 nodes (field 1 fields))) (λ head. in_answer_line (number_in (field 2 fields)) >>= λ flow. Ok (record { tail = tail; head = head; flow = pos flow })) (in_line_other (natural_in 1 nodes (field 1 fields)) (natural_in_other 1 nodes (field 1 fields))) (λ head.
    bind_other number_of (in_answer_line (number_in (field 2 fields))) (λ flow. Ok (record { tail = tail; head = head; flow = pos flow })) (in_line_other (number_in (field 2 fields)) (number_in_other (field 2 fields))) (λ flow.
    tt))))))

read_potential_other : (nodes arcs : ℕ) (said : Said) (fields : List Word) → IsOther number_of (read_potential nodes arcs said fields)
unfolding read_potential
read_potential_other nodes arcs said fields =
    bind_other number_of (demand (is_some said.value) fault.OutOfOrder) (λ _. demand (length said.flows == arcs) fault.OutOfOrder >>= λ _. demand (nat_lt (length said.potentials) nodes) fault.OutOfOrder >>= λ _. in_answer_line (has_fields 2 fields) >>= λ _. in_answer_line (natural_in 1 nodes (field 0 fields)) >>= λ id. in_answer_line (some_or (integer (field 1 fields)) of_line.NotANumber) >>= λ potential. demand (id == length said.potentials + 1) fault.OutOfOrder >>= λ _. Ok potential) (demand_other number_of _ fault.OutOfOrder (λ h. absurd (omega arith))) (λ _.
    bind_other number_of (demand (length said.flows == arcs) fault.OutOfOrder) (λ _. demand (nat_lt (length said.potentials) nodes) fault.OutOfOrder >>= λ _. in_answer_line (has_fields 2 fields) >>= λ _. in_answer_line (natural_in 1 nodes (field 0 fields)) >>= λ id. in_answer_line (some_or (integer (field 1 fields)) of_line.NotANumber) >>= λ potential. demand (id == length said.potentials + 1) fault.OutOfOrder >>= λ _. Ok potential) (demand_other number_of _ fault.OutOfOrder (λ h. absurd (omega arith))) (λ _.
    bind_other number_of (demand (nat_lt (length said.potentials) nodes) fault.OutOfOrder) (λ _. in_answer_line (has_fields 2 fields) >>= λ _. in_answer_line (natural_in 1 nodes (field 0 fields)) >>= λ id. in_answer_line (some_or (integer (field 1 fields)) of_line.NotANumber) >>= λ potential. demand (id == length said.potentials + 1) fault.OutOfOrder >>= λ _. Ok potential) (demand_other number_of _ fault.OutOfOrder (λ h. absurd (omega arith))) (λ _.
    bind_other number_of (in_answer_line (has_fields 2 fields)) (λ _. in_answer_line (natural_in 1 nodes (field 0 fields)) >>= λ id. in_answer_line (some_or (integer (field 1 fields)) of_line.NotANumber) >>= λ potential. demand (id == length said.potentials + 1) fault.OutOfOrder >>= λ _. Ok potential) (in_line_other (has_fields 2 fields) (has_fields_other 2 fields)) (λ _.
    bind_other number_of (in_answer_line (natural_in 1 nodes (field 0 fields))) (λ id. in_answer_line (some_or (integer (field 1 fields)) of_line.NotANumber) >>= λ potential. demand (id == length said.potentials + 1) fault.OutOfOrder >>= λ _. Ok potential) (in_line_other (natural_in 1 nodes (field 0 fields)) (natural_in_other 1 nodes (field 0 fields))) (λ id.
    bind_other number_of (in_answer_line (some_or (integer (field 1 fields)) of_line.NotANumber)) (λ potential. demand (id == length said.potentials + 1) fault.OutOfOrder >>= λ _. Ok potential) (in_line_other (some_or (integer (field 1 fields)) of_line.NotANumber) (some_or_other number_in_line (integer (field 1 fields)) of_line.NotANumber (λ h. absurd (omega arith)))) (λ potential.
    bind_other number_of (demand (id == length said.potentials + 1) fault.OutOfOrder) (λ _. Ok potential) (demand_other number_of _ fault.OutOfOrder (λ h. absurd (omega arith))) (λ _.
    tt)))))))

read_shortage_other : (said : Said) (fields : List Word) → IsOther number_of (read_shortage said fields)
unfolding read_shortage
read_shortage_other said fields =
    bind_other number_of (demand (is_none said.value) fault.OutOfOrder) (λ _. demand (is_none said.shortage) fault.OutOfOrder >>= λ _. in_answer_line (has_fields 1 fields) >>= λ _. in_answer_line (number_in (field 0 fields)) >>= λ shortage. Ok (pos shortage)) (demand_other number_of _ fault.OutOfOrder (λ h. absurd (omega arith))) (λ _.
    bind_other number_of (demand (is_none said.shortage) fault.OutOfOrder) (λ _. in_answer_line (has_fields 1 fields) >>= λ _. in_answer_line (number_in (field 0 fields)) >>= λ shortage. Ok (pos shortage)) (demand_other number_of _ fault.OutOfOrder (λ h. absurd (omega arith))) (λ _.
    bind_other number_of (in_answer_line (has_fields 1 fields)) (λ _. in_answer_line (number_in (field 0 fields)) >>= λ shortage. Ok (pos shortage)) (in_line_other (has_fields 1 fields) (has_fields_other 1 fields)) (λ _.
    bind_other number_of (in_answer_line (number_in (field 0 fields))) (λ shortage. Ok (pos shortage)) (in_line_other (number_in (field 0 fields)) (number_in_other (field 0 fields))) (λ shortage.
    tt))))

read_cut_node_other : (nodes : ℕ) (said : Said) (fields : List Word) → IsOther number_of (read_cut_node nodes said fields)
unfolding read_cut_node
read_cut_node_other nodes said fields =
    bind_other number_of (demand (is_some said.shortage) fault.OutOfOrder) (λ _. in_answer_line (has_fields 1 fields) >>= λ _. in_answer_line (natural_in 1 nodes (field 0 fields)) >>= λ id. demand (nat_lt (last_node said.cut) id) fault.OutOfOrder >>= λ _. Ok id) (demand_other number_of _ fault.OutOfOrder (λ h. absurd (omega arith))) (λ _.
    bind_other number_of (in_answer_line (has_fields 1 fields)) (λ _. in_answer_line (natural_in 1 nodes (field 0 fields)) >>= λ id. demand (nat_lt (last_node said.cut) id) fault.OutOfOrder >>= λ _. Ok id) (in_line_other (has_fields 1 fields) (has_fields_other 1 fields)) (λ _.
    bind_other number_of (in_answer_line (natural_in 1 nodes (field 0 fields))) (λ id. demand (nat_lt (last_node said.cut) id) fault.OutOfOrder >>= λ _. Ok id) (in_line_other (natural_in 1 nodes (field 0 fields)) (natural_in_other 1 nodes (field 0 fields))) (λ id.
    bind_other number_of (demand (nat_lt (last_node said.cut) id) fault.OutOfOrder) (λ _. Ok id) (demand_other number_of _ fault.OutOfOrder (λ h. absurd (omega arith))) (λ _.
    tt))))

fault_by_other : (nodes arcs : ℕ) (said : Said) (first : Option AnswerLine) (fields : List Word) → answer_fault_by nodes arcs said first fields ≢ Some 1
fault_by_other nodes arcs said None fields = λ e. cc
fault_by_other nodes arcs said (Some line.Comment) fields = λ e. cc
fault_by_other nodes arcs said (Some line.Value) fields = fault_other (read_value said fields) (read_value_other said fields)
fault_by_other nodes arcs said (Some line.Flow) fields = fault_other (read_flow nodes arcs said fields) (read_flow_other nodes arcs said fields)
fault_by_other nodes arcs said (Some line.Potential) fields = fault_other (read_potential nodes arcs said fields) (read_potential_other nodes arcs said fields)
fault_by_other nodes arcs said (Some line.Shortage) fields = fault_other (read_shortage said fields) (read_shortage_other said fields)
fault_by_other nodes arcs said (Some line.CutNode) fields = fault_other (read_cut_node nodes said fields) (read_cut_node_other nodes said fields)
fault_by_other nodes arcs said (Some line.Unknown) fields = λ e. cc

pub rule_other : (nodes arcs : ℕ) (before : List Line) (line : Line) → answer_rule nodes arcs before line ≢ Some 1
rule_other nodes arcs before line = fault_by_other nodes arcs (said_of before) (answer_line_of (words_of line)) (fields_of (words_of line))

number_is : (number : ℕ) (line other : ℕ) → ◌≡◌ {A = Result Answer TextFault} (Err (at_line number line)) (Err (text_fault.Fault 1 other)) → number ≡ 1
number_is number line other e = cc

all_by : (all : Bool) (answer : Answer) (line other : ℕ) → or_at (numbered number_of (cond all (Ok answer) (Err fault.OutOfOrder))) line ≢ Err (text_fault.Fault 1 other)
all_by true answer line other = λ e. cc
all_by false answer line other = λ e. absurd (omega (arith, number_is (number_of fault.OutOfOrder) line other e))

flow_ending_other : (nodes arcs : ℕ) (value : Option ℤ) (said : Said) (line other : ℕ) → or_at (numbered number_of (flow_ending nodes arcs value said)) line ≢ Err (text_fault.Fault 1 other)
flow_ending_other nodes arcs None said line other = λ e. absurd (omega (arith, number_is (number_of fault.OutOfOrder) line other e))
flow_ending_other nodes arcs (Some value) said line other = all_by (length said.flows == arcs && length said.potentials == nodes) _ line other

ending_other : (nodes arcs : ℕ) (shortage : Option ℤ) (said : Said) (line other : ℕ) → or_at (numbered number_of (answer_ending_by nodes arcs shortage said)) line ≢ Err (text_fault.Fault 1 other)
ending_other nodes arcs None said line other = flow_ending_other nodes arcs said.value said line other
ending_other nodes arcs (Some shortage) said line other = λ e. cc

pub end_other : (nodes arcs : ℕ) (lines : List Line) (other : ℕ) → answer_end nodes arcs lines ≢ Err (text_fault.Fault 1 other)
end_other nodes arcs lines other = ending_other nodes arcs (said_of lines).shortage (said_of lines) (length lines) other
