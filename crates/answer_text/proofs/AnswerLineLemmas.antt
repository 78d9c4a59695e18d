-- What it means that a line of an answer text was read.
use Rattle.std.proofs.Common.{◌≡◌, ℕ, ◌+◌, true, List, length, Option, Some, None, Result, Ok, ℤ, pos, refl, ap, subst, ◌∙◌}
use Rattle.std.specs.Prelude.{nat_lt, ◌==◌, is_none, is_some, unwrap_or}
use Rattle.dimacs_lines.specs.declared.fault.LineFault.{LineFault}
use Rattle.dimacs_lines.specs.declared.fault.LineFault.TheVariants as of_line
use Rattle.answer_text.specs.declared.answer_fault.AnswerFault.TheVariants as fault
use Rattle.answer_text.specs.AnswerFault.{in_answer_line}
use Rattle.dimacs_lines.specs.Fields.{Word, natural, integer, claimed_value, IsNode, natural_value, field}
use Rattle.dimacs_lines.specs.Checks.{◌>>=◌, demand, some_or, has_fields, number_in, natural_in}
use Rattle.dimacs_lines.proofs.CheckLemmas.{bind_ok, demand_ok, some_or_ok, ok_is, held_ok, NaturalIsRead, natural_is_read}
use Rattle.answer_text.specs.declared.answer.FlowLine.{FlowLine}
use Rattle.answer_text.specs.Answer.{Said, value_said, flow_said, potential_said, shortage_said, cut_node_said, last_node, read_value, read_flow, read_potential, read_shortage, read_cut_node}

none_is : (o : Option ℤ) → is_none o ≡ true → o ≡ None
none_is None e = refl
none_is (Some value) e = absurd cc

-- a check of a line by itself
in_line_ok : {A : Type 0} (r : Result A LineFault) (x : A) → in_answer_line r ≡ Ok x → r ≡ Ok x
in_line_ok r x e = held_ok (λ f. fault.Line f) r x e

natural_in-ok : (low high : ℕ) (word : Word) (n : ℕ) → in_answer_line (natural_in low high word) ≡ Ok n → NaturalIsRead low high word n
natural_in-ok low high word n e = natural_is_read low high word n (in_line_ok (natural_in low high word) n e)

-- what an `s` line says
pub record ValueIsRead (said : Said) (fields : List Word) (claimed : ℤ) : Type 0 where
  pub first : said.value ≡ None
  pub value_is : value_said fields ≡ claimed

pub read_value-ok : (said : Said) (fields : List Word) (value : ℤ) → read_value said fields ≡ Ok value → ValueIsRead said fields value
unfolding read_value
read_value-ok said fields value ok =
    let s1 = bind_ok (demand (is_none said.value) fault.OutOfOrder) (λ _. demand (is_none said.shortage) fault.OutOfOrder >>= λ _. in_answer_line (has_fields 1 fields) >>= λ _. in_answer_line (some_or (claimed_value (field 0 fields)) of_line.NotANumber)) value ok in
    let s2 = bind_ok (demand (is_none said.shortage) fault.OutOfOrder) (λ _. in_answer_line (has_fields 1 fields) >>= λ _. in_answer_line (some_or (claimed_value (field 0 fields)) of_line.NotANumber)) value s1.2 in
    let s3 = bind_ok (in_answer_line (has_fields 1 fields)) (λ _. in_answer_line (some_or (claimed_value (field 0 fields)) of_line.NotANumber)) value s2.2 in
    record {
      first = none_is said.value (demand_ok _ _ s1.0 s1.1);
      value_is = ap (λ (o : Option ℤ). unwrap_or o (pos 0)) (some_or_ok (claimed_value (field 0 fields)) of_line.NotANumber value (in_line_ok (some_or (claimed_value (field 0 fields)) of_line.NotANumber) value s3.2));
    }

-- what an `f` line says
pub record FlowIsRead (nodes : ℕ) (fields : List Word) (line : FlowLine) : Type 0 where
  pub tail : IsNode nodes line.tail
  pub head : IsNode nodes line.head
  pub line_is : flow_said fields ≡ line

pub read_flow-ok : (nodes arcs : ℕ) (said : Said) (fields : List Word) (line : FlowLine) → read_flow nodes arcs said fields ≡ Ok line → FlowIsRead nodes fields line
unfolding read_flow
read_flow-ok nodes arcs said fields line ok =
    let s1 = bind_ok (demand (is_some said.value) fault.OutOfOrder) (λ _. demand (nat_lt (length said.flows) arcs) fault.OutOfOrder >>= λ _. in_answer_line (has_fields 3 fields) >>= λ _. in_answer_line (natural_in 1 nodes (field 0 fields)) >>= λ tail. in_answer_line (natural_in 1 nodes (field 1 fields)) >>= λ head. in_answer_line (number_in (field 2 fields)) >>= λ flow. Ok (record { tail = tail; head = head; flow = pos flow })) line ok in
    let s2 = bind_ok (demand (nat_lt (length said.flows) arcs) fault.OutOfOrder) (λ _. in_answer_line (has_fields 3 fields) >>= λ _. in_answer_line (natural_in 1 nodes (field 0 fields)) >>= λ tail. in_answer_line (natural_in 1 nodes (field 1 fields)) >>= λ head. in_answer_line (number_in (field 2 fields)) >>= λ flow. Ok (record { tail = tail; head = head; flow = pos flow })) line s1.2 in
    let s3 = bind_ok (in_answer_line (has_fields 3 fields)) (λ _. in_answer_line (natural_in 1 nodes (field 0 fields)) >>= λ tail. in_answer_line (natural_in 1 nodes (field 1 fields)) >>= λ head. in_answer_line (number_in (field 2 fields)) >>= λ flow. Ok (record { tail = tail; head = head; flow = pos flow })) line s2.2 in
    let s4 = bind_ok (in_answer_line (natural_in 1 nodes (field 0 fields))) (λ tail. in_answer_line (natural_in 1 nodes (field 1 fields)) >>= λ head. in_answer_line (number_in (field 2 fields)) >>= λ flow. Ok (record { tail = tail; head = head; flow = pos flow })) line s3.2 in
    let s5 = bind_ok (in_answer_line (natural_in 1 nodes (field 1 fields))) (λ head. in_answer_line (number_in (field 2 fields)) >>= λ flow. Ok (record { tail = s4.0; head = head; flow = pos flow })) line s4.2 in
    let s6 = bind_ok (in_answer_line (number_in (field 2 fields))) (λ flow. Ok (record { tail = s4.0; head = s5.0; flow = pos flow })) line s5.2 in
    let tail = natural_in-ok 1 nodes (field 0 fields) s4.0 s4.1 in
    let head = natural_in-ok 1 nodes (field 1 fields) s5.0 s5.1 in
    let flow : natural_value (field 2 fields) ≡ s6.0 = ap (λ (o : Option ℕ). unwrap_or o 0) (some_or_ok (natural (field 2 fields)) of_line.NotANumber s6.0 (in_line_ok (number_in (field 2 fields)) s6.0 s6.1)) in
    let is : ◌≡◌ {A = FlowLine} (record { tail = s4.0; head = s5.0; flow = pos s6.0 }) line = ok_is _ line s6.2 in
    record {
      tail = subst (λ (l : FlowLine). IsNode nodes l.tail) is (tail.above, tail.below);
      head = subst (λ (l : FlowLine). IsNode nodes l.head) is (head.above, head.below);
      line_is = rw (tail.value, head.value, flow) is;
    }

-- what a `v` line says
pub read_potential-ok : (nodes arcs : ℕ) (said : Said) (fields : List Word) (value : ℤ) → read_potential nodes arcs said fields ≡ Ok value → potential_said fields ≡ value
unfolding read_potential
read_potential-ok nodes arcs said fields value ok =
    let s1 = bind_ok (demand (is_some said.value) fault.OutOfOrder) (λ _. demand (length said.flows == arcs) fault.OutOfOrder >>= λ _. demand (nat_lt (length said.potentials) nodes) fault.OutOfOrder >>= λ _. in_answer_line (has_fields 2 fields) >>= λ _. in_answer_line (natural_in 1 nodes (field 0 fields)) >>= λ id. in_answer_line (some_or (integer (field 1 fields)) of_line.NotANumber) >>= λ potential. demand (id == length said.potentials + 1) fault.OutOfOrder >>= λ _. Ok potential) value ok in
    let s2 = bind_ok (demand (length said.flows == arcs) fault.OutOfOrder) (λ _. demand (nat_lt (length said.potentials) nodes) fault.OutOfOrder >>= λ _. in_answer_line (has_fields 2 fields) >>= λ _. in_answer_line (natural_in 1 nodes (field 0 fields)) >>= λ id. in_answer_line (some_or (integer (field 1 fields)) of_line.NotANumber) >>= λ potential. demand (id == length said.potentials + 1) fault.OutOfOrder >>= λ _. Ok potential) value s1.2 in
    let s3 = bind_ok (demand (nat_lt (length said.potentials) nodes) fault.OutOfOrder) (λ _. in_answer_line (has_fields 2 fields) >>= λ _. in_answer_line (natural_in 1 nodes (field 0 fields)) >>= λ id. in_answer_line (some_or (integer (field 1 fields)) of_line.NotANumber) >>= λ potential. demand (id == length said.potentials + 1) fault.OutOfOrder >>= λ _. Ok potential) value s2.2 in
    let s4 = bind_ok (in_answer_line (has_fields 2 fields)) (λ _. in_answer_line (natural_in 1 nodes (field 0 fields)) >>= λ id. in_answer_line (some_or (integer (field 1 fields)) of_line.NotANumber) >>= λ potential. demand (id == length said.potentials + 1) fault.OutOfOrder >>= λ _. Ok potential) value s3.2 in
    let s5 = bind_ok (in_answer_line (natural_in 1 nodes (field 0 fields))) (λ id. in_answer_line (some_or (integer (field 1 fields)) of_line.NotANumber) >>= λ potential. demand (id == length said.potentials + 1) fault.OutOfOrder >>= λ _. Ok potential) value s4.2 in
    let s6 = bind_ok (in_answer_line (some_or (integer (field 1 fields)) of_line.NotANumber)) (λ potential. demand (s5.0 == length said.potentials + 1) fault.OutOfOrder >>= λ _. Ok potential) value s5.2 in
    let s7 = bind_ok (demand (s5.0 == length said.potentials + 1) fault.OutOfOrder) (λ _. Ok s6.0) value s6.2 in
    ap (λ (o : Option ℤ). unwrap_or o (pos 0)) (some_or_ok (integer (field 1 fields)) of_line.NotANumber s6.0 (in_line_ok (some_or (integer (field 1 fields)) of_line.NotANumber) s6.0 s6.1)) ∙ ok_is s6.0 value s7.2

-- what an `i` line says
pub record ShortageIsRead (said : Said) (fields : List Word) (claimed : ℤ) : Type 0 where
  pub first : said.shortage ≡ None
  pub shortage_is : shortage_said fields ≡ claimed

pub read_shortage-ok : (said : Said) (fields : List Word) (shortage : ℤ) → read_shortage said fields ≡ Ok shortage → ShortageIsRead said fields shortage
unfolding read_shortage
read_shortage-ok said fields shortage ok =
    let s1 = bind_ok (demand (is_none said.value) fault.OutOfOrder) (λ _. demand (is_none said.shortage) fault.OutOfOrder >>= λ _. in_answer_line (has_fields 1 fields) >>= λ _. in_answer_line (number_in (field 0 fields)) >>= λ shortage. Ok (pos shortage)) shortage ok in
    let s2 = bind_ok (demand (is_none said.shortage) fault.OutOfOrder) (λ _. in_answer_line (has_fields 1 fields) >>= λ _. in_answer_line (number_in (field 0 fields)) >>= λ shortage. Ok (pos shortage)) shortage s1.2 in
    let s3 = bind_ok (in_answer_line (has_fields 1 fields)) (λ _. in_answer_line (number_in (field 0 fields)) >>= λ shortage. Ok (pos shortage)) shortage s2.2 in
    let s4 = bind_ok (in_answer_line (number_in (field 0 fields))) (λ shortage. Ok (pos shortage)) shortage s3.2 in
    let number : natural_value (field 0 fields) ≡ s4.0 = ap (λ (o : Option ℕ). unwrap_or o 0) (some_or_ok (natural (field 0 fields)) of_line.NotANumber s4.0 (in_line_ok (number_in (field 0 fields)) s4.0 s4.1)) in
    record {
      first = none_is said.shortage (demand_ok _ _ s2.0 s2.1);
      shortage_is = ap pos number ∙ ok_is (pos s4.0) shortage s4.2;
    }

-- what a `k` line says
pub record CutNodeIsRead (nodes : ℕ) (fields : List Word) (id : ℕ) : Type 0 where
  pub node : IsNode nodes id
  pub node_is : cut_node_said fields ≡ id

pub read_cut_node-ok : (nodes : ℕ) (said : Said) (fields : List Word) (id : ℕ) → read_cut_node nodes said fields ≡ Ok id → CutNodeIsRead nodes fields id
unfolding read_cut_node
read_cut_node-ok nodes said fields id ok =
    let s1 = bind_ok (demand (is_some said.shortage) fault.OutOfOrder) (λ _. in_answer_line (has_fields 1 fields) >>= λ _. in_answer_line (natural_in 1 nodes (field 0 fields)) >>= λ id. demand (nat_lt (last_node said.cut) id) fault.OutOfOrder >>= λ _. Ok id) id ok in
    let s2 = bind_ok (in_answer_line (has_fields 1 fields)) (λ _. in_answer_line (natural_in 1 nodes (field 0 fields)) >>= λ id. demand (nat_lt (last_node said.cut) id) fault.OutOfOrder >>= λ _. Ok id) id s1.2 in
    let s3 = bind_ok (in_answer_line (natural_in 1 nodes (field 0 fields))) (λ id. demand (nat_lt (last_node said.cut) id) fault.OutOfOrder >>= λ _. Ok id) id s2.2 in
    let s4 = bind_ok (demand (nat_lt (last_node said.cut) s3.0) fault.OutOfOrder) (λ _. Ok s3.0) id s3.2 in
    let is : s3.0 ≡ id = ok_is s3.0 id s4.2 in
    let read = natural_in-ok 1 nodes (field 0 fields) s3.0 s3.1 in
    record {
      node = subst (λ (n : ℕ). IsNode nodes n) is (read.above, read.below);
      node_is = read.value ∙ is;
    }
