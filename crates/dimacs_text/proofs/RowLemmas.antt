-- What it means that a line was read.
use Rattle.std.proofs.Common.{◌≡◌, ℕ, ◌<◌, ◌≤◌, Bool, true, false, cond, if◌then◌else◌, not, ◌&&◌, ◌||◌, List, [], ◌∷◌, ◌++◌, length, Option, Some, None, Result, Ok, Err, ℤ, pos, neg_ℤ, refl, ap, subst, ◌∙◌, arith}
use Rattle.std.specs.Prelude.{int_le, nat_le, nat_lt, ◌==◌, is_none, unwrap_or}
use Rattle.std.proofs.lemmas.Bool.{leb-true, ltb-true, eqb-true, and_parts, not-true}
use Rattle.std.proofs.lemmas.Float.{T_from_true}
use Rattle.std.proofs.lemmas.Int.{ints}
use Rattle.std.proofs.lemmas.List.{nil_from_length}
use Rattle.std.proofs.lemmas.List.Elements.{All-push}
use Rattle.dimacs_lines.specs.declared.fault.LineFault.{LineFault}
use Rattle.dimacs_lines.specs.declared.fault.LineFault.TheVariants as of_line
use Rattle.dimacs_text.specs.declared.problem_fault.ProblemFault.TheVariants as fault
use Rattle.dimacs_text.specs.ProblemFault.{in_line}
use Rattle.dimacs_text.specs.declared.problem.Kind.{Kind}
use Rattle.dimacs_text.specs.declared.problem.Kind.TheVariants.{Min, Max, Asn}
use Rattle.dimacs_text.specs.declared.problem.NodeMark.{NodeMark}
use Rattle.dimacs_text.specs.declared.problem.NodeMark.TheVariants.{Supply, Source, Sink, Side}
use Rattle.dimacs_text.specs.declared.problem.ArcRow.{ArcRow}
use Rattle.dimacs_text.specs.declared.problem.Size.{Size}
use Rattle.dimacs_text.specs.declared.problem.TheConstants.{NODE_LIMIT, ARC_LIMIT, CAP_LIMIT, COST_LIMIT, SUPPLY_LIMIT}
use Rattle.dimacs_lines.specs.Fields.{Word, integer, integer_value, field, IsNode}
use Rattle.dimacs_lines.specs.Checks.{◌>>=◌, demand, some_or, has_fields, natural_in, integer_in}
use Rattle.dimacs_lines.proofs.CheckLemmas.{bind_ok, demand_ok, some_or_ok, ok_is, held_ok, NaturalIsRead, natural_is_read}
use Rattle.dimacs_text.specs.Problem.{Parsed, kind_named, kind_of, kind_in, is_source_word, is_sink_word, has_source, has_sink, has_terminals, terminal_by, read_size, read_mark, read_mark_of, read_supply, read_terminal, read_side, read_row, read_row_of, read_min_row, read_max_row, read_asn_row, node_of, is_named, mark_of, row_of, size_of, new_marks, new_rows}
use Rattle.dimacs_text.specs.Lawful.{IsWithin, IsLawfulSize, IsLawfulMark, IsLawfulRow, HasLawfulSupply, IsSupply, IsSide, AreOpposite, AreTerminals, MarksFit, RowFits}

in_line_ok : {A : Type 0} (r : Result A LineFault) (x : A) → in_line r ≡ Ok x → r ≡ Ok x
in_line_ok r x e = held_ok (λ f. fault.Line f) r x e

natural_in-ok : (low high : ℕ) (word : Word) (n : ℕ) → in_line (natural_in low high word) ≡ Ok n → NaturalIsRead low high word n
natural_in-ok low high word n e = natural_is_read low high word n (in_line_ok (natural_in low high word) n e)

pub record IntegerIsRead (limit : ℤ) (word : Word) (z : ℤ) : Type 0 where
  pub value : integer_value word ≡ z
  pub within : IsWithin limit z

integer_range_ok : (met : Bool) (f : LineFault) (n m : ℤ) → cond met (Ok n) (Err f) ≡ Ok m → (met ≡ true) × (n ≡ m)
integer_range_ok true f n m e = (refl, cc)
integer_range_ok false f n m e = absurd cc

integer_by : (limit : ℤ) (o : Option ℤ) (z : ℤ) → (some_or o of_line.NotANumber >>= λ z. if int_le (neg_ℤ limit) z && int_le z limit then Ok z else Err of_line.OutOfRange) ≡ Ok z → (unwrap_or o (pos 0) ≡ z) × IsWithin limit z
integer_by limit None z e = absurd cc
integer_by limit (Some y) z e =
    let r = integer_range_ok (int_le (neg_ℤ limit) y && int_le y limit) of_line.OutOfRange y z e in
    let both = and_parts (int_le (neg_ℤ limit) y) (int_le y limit) r.0 in
    (r.1, subst (λ (x : ℤ). IsWithin limit x) r.1 (record { le = T_from_true _ both.0 }, record { le = T_from_true _ both.1 }))

integer_in-ok : (limit : ℤ) (word : Word) (z : ℤ) → in_line (integer_in limit word) ≡ Ok z → IntegerIsRead limit word z
integer_in-ok limit word z e = let r = integer_by limit (integer word) z (in_line_ok (integer_in limit word) z e) in record { value = r.0; within = r.1 }

kind_is : (kind : Kind) (word : Word) → kind_in word ≡ Ok kind → kind_of word ≡ kind
kind_is kind word e = ap (λ (o : Option Kind). unwrap_or o Min) (some_or_ok (kind_named word) fault.UnknownKind kind e)

none_is : (o : Option Size) → is_none o ≡ true → o ≡ None
none_is None e = refl
none_is (Some size) e = absurd cc

-- what the problem line says
pub record SizeIsRead (told : Parsed) (fields : List Word) (size : Size) : Type 0 where
  pub first : told.size ≡ None
  pub lawful : IsLawfulSize size
  pub size_is : size_of fields ≡ size

pub read_size-ok : (told : Parsed) (fields : List Word) (size : Size) → read_size told fields ≡ Ok size → SizeIsRead told fields size
unfolding read_size
read_size-ok told fields size ok =
    let s1 = bind_ok (demand (is_none told.size) fault.SecondProblemLine) (λ _. in_line (has_fields 3 fields) >>= λ _. kind_in (field 0 fields) >>= λ kind. in_line (natural_in 1 NODE_LIMIT (field 1 fields)) >>= λ nodes. in_line (natural_in 0 ARC_LIMIT (field 2 fields)) >>= λ arcs. Ok (record { kind = kind; nodes = nodes; arcs = arcs })) size ok in
    let s2 = bind_ok (in_line (has_fields 3 fields)) (λ _. kind_in (field 0 fields) >>= λ kind. in_line (natural_in 1 NODE_LIMIT (field 1 fields)) >>= λ nodes. in_line (natural_in 0 ARC_LIMIT (field 2 fields)) >>= λ arcs. Ok (record { kind = kind; nodes = nodes; arcs = arcs })) size s1.2 in
    let s3 = bind_ok (kind_in (field 0 fields)) (λ kind. in_line (natural_in 1 NODE_LIMIT (field 1 fields)) >>= λ nodes. in_line (natural_in 0 ARC_LIMIT (field 2 fields)) >>= λ arcs. Ok (record { kind = kind; nodes = nodes; arcs = arcs })) size s2.2 in
    let s4 = bind_ok (in_line (natural_in 1 NODE_LIMIT (field 1 fields))) (λ nodes. in_line (natural_in 0 ARC_LIMIT (field 2 fields)) >>= λ arcs. Ok (record { kind = s3.0; nodes = nodes; arcs = arcs })) size s3.2 in
    let s5 = bind_ok (in_line (natural_in 0 ARC_LIMIT (field 2 fields))) (λ arcs. Ok (record { kind = s3.0; nodes = s4.0; arcs = arcs })) size s4.2 in
    let nodes = natural_in-ok 1 NODE_LIMIT (field 1 fields) s4.0 s4.1 in
    let arcs = natural_in-ok 0 ARC_LIMIT (field 2 fields) s5.0 s5.1 in
    let is : ◌≡◌ {A = Size} (record { kind = s3.0; nodes = s4.0; arcs = s5.0 }) size = ok_is _ size s5.2 in
    record {
      first = none_is told.size (demand_ok _ _ s1.0 s1.1);
      lawful = subst (λ (s : Size). IsLawfulSize s) is (record { some_node = nodes.above; nodes = nodes.below; arcs = arcs.below });
      size_is = rw (nodes.value, arcs.value, kind_is s3.0 (field 0 fields) s3.1) is;
    }

-- ---- node lines

-- what the fields of a node line say
pub record FieldsAreMark (kind : Kind) (nodes : ℕ) (marks : List NodeMark) (fields : List Word) (mark : NodeMark) : Type 0 where
  pub lawful : IsLawfulMark nodes mark
  pub fits : MarksFit kind marks → MarksFit kind (marks ++ mark ∷ [])
  pub fresh : is_named (node_of mark) marks ≡ false
  pub mark_is : mark_of kind fields ≡ mark

read_supply-ok : (nodes : ℕ) (marks : List NodeMark) (fields : List Word) (mark : NodeMark) → read_supply nodes marks fields ≡ Ok mark → FieldsAreMark Min nodes marks fields mark
unfolding read_supply
read_supply-ok nodes marks fields mark ok =
    let s1 = bind_ok (in_line (has_fields 2 fields)) (λ _. in_line (natural_in 1 nodes (field 0 fields)) >>= λ id. in_line (integer_in SUPPLY_LIMIT (field 1 fields)) >>= λ value. demand (not (is_named id marks)) fault.NamedTwice >>= λ _. Ok (Supply id value)) mark ok in
    let s2 = bind_ok (in_line (natural_in 1 nodes (field 0 fields))) (λ id. in_line (integer_in SUPPLY_LIMIT (field 1 fields)) >>= λ value. demand (not (is_named id marks)) fault.NamedTwice >>= λ _. Ok (Supply id value)) mark s1.2 in
    let s3 = bind_ok (in_line (integer_in SUPPLY_LIMIT (field 1 fields))) (λ value. demand (not (is_named s2.0 marks)) fault.NamedTwice >>= λ _. Ok (Supply s2.0 value)) mark s2.2 in
    let s4 = bind_ok (demand (not (is_named s2.0 marks)) fault.NamedTwice) (λ _. Ok (Supply s2.0 s3.0)) mark s3.2 in
    let id = natural_in-ok 1 nodes (field 0 fields) s2.0 s2.1 in
    let value = integer_in-ok SUPPLY_LIMIT (field 1 fields) s3.0 s3.1 in
    let is : Supply s2.0 s3.0 ≡ mark = ok_is _ mark s4.2 in
    record {
      lawful = subst (λ (m : NodeMark). IsLawfulMark nodes m) is (record { node = (id.above, id.below); supply = value.within });
      fits = λ fit. All-push IsSupply marks mark fit (subst (λ (m : NodeMark). IsSupply m) is tt);
      fresh = subst (λ (m : NodeMark). is_named (node_of m) marks ≡ false) is (not-true _ (demand_ok _ _ s4.0 s4.1));
      mark_is = rw (id.value, value.value) is;
    }

both_ways : (b : Bool) → b ≡ true → b ≡ false → ⊥
both_ways b is isnt = cc

opposite_are : (first second : NodeMark) → AreOpposite first second → (has_source (first ∷ second ∷ []) ≡ true) × (has_sink (first ∷ second ∷ []) ≡ true)
opposite_are (Source a) (Sink b) are = (refl, refl)
opposite_are (Sink a) (Source b) are = (refl, refl)
opposite_are first second are = absurd are

source_added : (marks : List NodeMark) (id : ℕ) → has_source marks ≡ false → AreTerminals marks → AreTerminals (marks ++ Source id ∷ [])
source_added [] id none are = tt
source_added (Sink a ∷ []) id none are = tt
source_added (Source a ∷ []) id none are = absurd (both_ways true refl none)
source_added (Supply a value ∷ []) id none are = absurd are
source_added (Side a ∷ []) id none are = absurd are
source_added (first ∷ second ∷ []) id none are = absurd (both_ways _ (opposite_are first second are).0 none)
source_added (first ∷ second ∷ third ∷ marks) id none are = absurd are

sink_added : (marks : List NodeMark) (id : ℕ) → has_sink marks ≡ false → AreTerminals marks → AreTerminals (marks ++ Sink id ∷ [])
sink_added [] id none are = tt
sink_added (Source a ∷ []) id none are = tt
sink_added (Sink a ∷ []) id none are = absurd (both_ways true refl none)
sink_added (Supply a value ∷ []) id none are = absurd are
sink_added (Side a ∷ []) id none are = absurd are
sink_added (first ∷ second ∷ []) id none are = absurd (both_ways _ (opposite_are first second are).1 none)
sink_added (first ∷ second ∷ third ∷ marks) id none are = absurd are

-- what a terminal's mark says
record IsTerminalAt (source : Bool) (id : ℕ) (marks : List NodeMark) (mark : NodeMark) : Type 0 where
  pub mark_is : cond source (Source id) (Sink id) ≡ mark
  pub node_is : id ≡ node_of mark
  pub supply : HasLawfulSupply mark
  pub fits : AreTerminals marks → AreTerminals (marks ++ mark ∷ [])

terminal_by-ok : (source : Bool) (id : ℕ) (marks : List NodeMark) (mark : NodeMark) → terminal_by source id marks ≡ Ok mark → IsTerminalAt source id marks mark
terminal_by-ok true id marks mark ok =
    let s1 = bind_ok (demand (not (has_source marks)) fault.NamedTwice) (λ _. Ok (Source id)) mark ok in
    let is : Source id ≡ mark = ok_is _ mark s1.2 in
    subst (λ (m : NodeMark). IsTerminalAt true id marks m) is (record { mark_is = refl; node_is = refl; supply = tt; fits = source_added marks id (not-true _ (demand_ok _ _ s1.0 s1.1)) })
terminal_by-ok false id marks mark ok =
    let s1 = bind_ok (demand (not (has_sink marks)) fault.NamedTwice) (λ _. Ok (Sink id)) mark ok in
    let is : Sink id ≡ mark = ok_is _ mark s1.2 in
    subst (λ (m : NodeMark). IsTerminalAt false id marks m) is (record { mark_is = refl; node_is = refl; supply = tt; fits = sink_added marks id (not-true _ (demand_ok _ _ s1.0 s1.1)) })

read_terminal-ok : (nodes : ℕ) (marks : List NodeMark) (fields : List Word) (mark : NodeMark) → read_terminal nodes marks fields ≡ Ok mark → FieldsAreMark Max nodes marks fields mark
unfolding read_terminal
read_terminal-ok nodes marks fields mark ok =
    let s1 = bind_ok (in_line (has_fields 2 fields)) (λ _. in_line (natural_in 1 nodes (field 0 fields)) >>= λ id. demand (is_source_word (field 1 fields) || is_sink_word (field 1 fields)) fault.UnknownNodeWord >>= λ _. demand (not (is_named id marks)) fault.NamedTwice >>= λ _. terminal_by (is_source_word (field 1 fields)) id marks) mark ok in
    let s2 = bind_ok (in_line (natural_in 1 nodes (field 0 fields))) (λ id. demand (is_source_word (field 1 fields) || is_sink_word (field 1 fields)) fault.UnknownNodeWord >>= λ _. demand (not (is_named id marks)) fault.NamedTwice >>= λ _. terminal_by (is_source_word (field 1 fields)) id marks) mark s1.2 in
    let s3 = bind_ok (demand (is_source_word (field 1 fields) || is_sink_word (field 1 fields)) fault.UnknownNodeWord) (λ _. demand (not (is_named s2.0 marks)) fault.NamedTwice >>= λ _. terminal_by (is_source_word (field 1 fields)) s2.0 marks) mark s2.2 in
    let s4 = bind_ok (demand (not (is_named s2.0 marks)) fault.NamedTwice) (λ _. terminal_by (is_source_word (field 1 fields)) s2.0 marks) mark s3.2 in
    let id = natural_in-ok 1 nodes (field 0 fields) s2.0 s2.1 in
    let read = terminal_by-ok (is_source_word (field 1 fields)) s2.0 marks mark s4.2 in
    record {
      lawful = record { node = subst (λ (n : ℕ). IsNode nodes n) read.node_is (id.above, id.below); supply = read.supply };
      fits = read.fits;
      fresh = subst (λ (n : ℕ). is_named n marks ≡ false) read.node_is (not-true _ (demand_ok _ _ s4.0 s4.1));
      mark_is = rw id.value read.mark_is;
    }

read_side-ok : (nodes : ℕ) (marks : List NodeMark) (fields : List Word) (mark : NodeMark) → read_side nodes marks fields ≡ Ok mark → FieldsAreMark Asn nodes marks fields mark
unfolding read_side
read_side-ok nodes marks fields mark ok =
    let s1 = bind_ok (in_line (has_fields 1 fields)) (λ _. in_line (natural_in 1 nodes (field 0 fields)) >>= λ id. demand (not (is_named id marks)) fault.NamedTwice >>= λ _. Ok (Side id)) mark ok in
    let s2 = bind_ok (in_line (natural_in 1 nodes (field 0 fields))) (λ id. demand (not (is_named id marks)) fault.NamedTwice >>= λ _. Ok (Side id)) mark s1.2 in
    let s3 = bind_ok (demand (not (is_named s2.0 marks)) fault.NamedTwice) (λ _. Ok (Side s2.0)) mark s2.2 in
    let id = natural_in-ok 1 nodes (field 0 fields) s2.0 s2.1 in
    let is : Side s2.0 ≡ mark = ok_is _ mark s3.2 in
    record {
      lawful = subst (λ (m : NodeMark). IsLawfulMark nodes m) is (record { node = (id.above, id.below); supply = tt });
      fits = λ fit. All-push IsSide marks mark fit (subst (λ (m : NodeMark). IsSide m) is tt);
      fresh = subst (λ (m : NodeMark). is_named (node_of m) marks ≡ false) is (not-true _ (demand_ok _ _ s3.0 s3.1));
      mark_is = rw id.value is;
    }

read_mark_of-ok : (kind : Kind) (nodes : ℕ) (marks : List NodeMark) (fields : List Word) (mark : NodeMark) → read_mark_of kind nodes marks fields ≡ Ok mark → FieldsAreMark kind nodes marks fields mark
read_mark_of-ok Min nodes marks fields mark ok = read_supply-ok nodes marks fields mark ok
read_mark_of-ok Max nodes marks fields mark ok = read_terminal-ok nodes marks fields mark ok
read_mark_of-ok Asn nodes marks fields mark ok = read_side-ok nodes marks fields mark ok

-- what a node line says
pub record MarkIsRead (told : Parsed) (fields : List Word) (mark : NodeMark) : Type 0 where
  pub size : Size
  pub size_is : told.size ≡ Some size
  pub no_rows : told.rows ≡ []
  pub read : FieldsAreMark size.kind size.nodes told.marks fields mark

pub read_mark-ok : (told : Parsed) (fields : List Word) (mark : NodeMark) → read_mark told fields ≡ Ok mark → MarkIsRead told fields mark
unfolding read_mark
read_mark-ok told fields mark ok =
    let s1 = bind_ok (some_or told.size fault.BeforeProblemLine) (λ size. demand (length told.rows == 0) fault.NodeAfterArc >>= λ _. read_mark_of size.kind size.nodes told.marks fields) mark ok in
    let s2 = bind_ok (demand (length told.rows == 0) fault.NodeAfterArc) (λ _. read_mark_of s1.0.kind s1.0.nodes told.marks fields) mark s1.2 in
    record {
      size = s1.0;
      size_is = some_or_ok told.size fault.BeforeProblemLine s1.0 s1.1;
      no_rows = nil_from_length told.rows (eqb-true _ _ (demand_ok _ _ s2.0 s2.1));
      read = read_mark_of-ok s1.0.kind s1.0.nodes told.marks fields mark s2.2;
    }

-- ---- arc lines

-- what the fields of an arc line say
pub record FieldsAreRow (kind : Kind) (nodes : ℕ) (marks : List NodeMark) (fields : List Word) (row : ArcRow) : Type 0 where
  pub lawful : IsLawfulRow nodes row
  pub fits : RowFits kind marks row
  pub row_is : row_of kind fields ≡ row

read_min_row-ok : (nodes : ℕ) (marks : List NodeMark) (fields : List Word) (row : ArcRow) → read_min_row nodes fields ≡ Ok row → FieldsAreRow Min nodes marks fields row
unfolding read_min_row
read_min_row-ok nodes marks fields row ok =
    let s1 = bind_ok (in_line (has_fields 5 fields)) (λ _. in_line (natural_in 1 nodes (field 0 fields)) >>= λ tail. in_line (natural_in 1 nodes (field 1 fields)) >>= λ head. in_line (natural_in 0 CAP_LIMIT (field 2 fields)) >>= λ low. in_line (natural_in 0 CAP_LIMIT (field 3 fields)) >>= λ cap. in_line (integer_in COST_LIMIT (field 4 fields)) >>= λ cost. demand (nat_le low cap) fault.LowAboveCap >>= λ _. Ok (record { tail = tail; head = head; low = pos low; cap = pos cap; cost = cost })) row ok in
    let s2 = bind_ok (in_line (natural_in 1 nodes (field 0 fields))) (λ tail. in_line (natural_in 1 nodes (field 1 fields)) >>= λ head. in_line (natural_in 0 CAP_LIMIT (field 2 fields)) >>= λ low. in_line (natural_in 0 CAP_LIMIT (field 3 fields)) >>= λ cap. in_line (integer_in COST_LIMIT (field 4 fields)) >>= λ cost. demand (nat_le low cap) fault.LowAboveCap >>= λ _. Ok (record { tail = tail; head = head; low = pos low; cap = pos cap; cost = cost })) row s1.2 in
    let s3 = bind_ok (in_line (natural_in 1 nodes (field 1 fields))) (λ head. in_line (natural_in 0 CAP_LIMIT (field 2 fields)) >>= λ low. in_line (natural_in 0 CAP_LIMIT (field 3 fields)) >>= λ cap. in_line (integer_in COST_LIMIT (field 4 fields)) >>= λ cost. demand (nat_le low cap) fault.LowAboveCap >>= λ _. Ok (record { tail = s2.0; head = head; low = pos low; cap = pos cap; cost = cost })) row s2.2 in
    let s4 = bind_ok (in_line (natural_in 0 CAP_LIMIT (field 2 fields))) (λ low. in_line (natural_in 0 CAP_LIMIT (field 3 fields)) >>= λ cap. in_line (integer_in COST_LIMIT (field 4 fields)) >>= λ cost. demand (nat_le low cap) fault.LowAboveCap >>= λ _. Ok (record { tail = s2.0; head = s3.0; low = pos low; cap = pos cap; cost = cost })) row s3.2 in
    let s5 = bind_ok (in_line (natural_in 0 CAP_LIMIT (field 3 fields))) (λ cap. in_line (integer_in COST_LIMIT (field 4 fields)) >>= λ cost. demand (nat_le s4.0 cap) fault.LowAboveCap >>= λ _. Ok (record { tail = s2.0; head = s3.0; low = pos s4.0; cap = pos cap; cost = cost })) row s4.2 in
    let s6 = bind_ok (in_line (integer_in COST_LIMIT (field 4 fields))) (λ cost. demand (nat_le s4.0 s5.0) fault.LowAboveCap >>= λ _. Ok (record { tail = s2.0; head = s3.0; low = pos s4.0; cap = pos s5.0; cost = cost })) row s5.2 in
    let s7 = bind_ok (demand (nat_le s4.0 s5.0) fault.LowAboveCap) (λ _. Ok (record { tail = s2.0; head = s3.0; low = pos s4.0; cap = pos s5.0; cost = s6.0 })) row s6.2 in
    let tail = natural_in-ok 1 nodes (field 0 fields) s2.0 s2.1 in
    let head = natural_in-ok 1 nodes (field 1 fields) s3.0 s3.1 in
    let low = natural_in-ok 0 CAP_LIMIT (field 2 fields) s4.0 s4.1 in
    let cap = natural_in-ok 0 CAP_LIMIT (field 3 fields) s5.0 s5.1 in
    let cost = integer_in-ok COST_LIMIT (field 4 fields) s6.0 s6.1 in
    let low_cap : s4.0 ≤ s5.0 = leb-true _ _ (demand_ok _ _ s7.0 s7.1) in
    let is : ◌≡◌ {A = ArcRow} (record { tail = s2.0; head = s3.0; low = pos s4.0; cap = pos s5.0; cost = s6.0 }) row = ok_is _ row s7.2 in
    record {
      lawful = subst (λ (r : ArcRow). IsLawfulRow nodes r) is (record { tail = (tail.above, tail.below); head = (head.above, head.below); low = omega (arith, ints); cap = omega (arith, ints); limit = omega (arith, ints, cap.below); cost = cost.within });
      fits = tt;
      row_is = rw (tail.value, head.value, low.value, cap.value, cost.value) is;
    }

read_max_row-ok : (nodes : ℕ) (marks : List NodeMark) (fields : List Word) (row : ArcRow) → read_max_row nodes fields ≡ Ok row → FieldsAreRow Max nodes marks fields row
unfolding read_max_row
read_max_row-ok nodes marks fields row ok =
    let s1 = bind_ok (in_line (has_fields 3 fields)) (λ _. in_line (natural_in 1 nodes (field 0 fields)) >>= λ tail. in_line (natural_in 1 nodes (field 1 fields)) >>= λ head. in_line (natural_in 0 CAP_LIMIT (field 2 fields)) >>= λ cap. Ok (record { tail = tail; head = head; low = pos 0; cap = pos cap; cost = pos 0 })) row ok in
    let s2 = bind_ok (in_line (natural_in 1 nodes (field 0 fields))) (λ tail. in_line (natural_in 1 nodes (field 1 fields)) >>= λ head. in_line (natural_in 0 CAP_LIMIT (field 2 fields)) >>= λ cap. Ok (record { tail = tail; head = head; low = pos 0; cap = pos cap; cost = pos 0 })) row s1.2 in
    let s3 = bind_ok (in_line (natural_in 1 nodes (field 1 fields))) (λ head. in_line (natural_in 0 CAP_LIMIT (field 2 fields)) >>= λ cap. Ok (record { tail = s2.0; head = head; low = pos 0; cap = pos cap; cost = pos 0 })) row s2.2 in
    let s4 = bind_ok (in_line (natural_in 0 CAP_LIMIT (field 2 fields))) (λ cap. Ok (record { tail = s2.0; head = s3.0; low = pos 0; cap = pos cap; cost = pos 0 })) row s3.2 in
    let tail = natural_in-ok 1 nodes (field 0 fields) s2.0 s2.1 in
    let head = natural_in-ok 1 nodes (field 1 fields) s3.0 s3.1 in
    let cap = natural_in-ok 0 CAP_LIMIT (field 2 fields) s4.0 s4.1 in
    let is : ◌≡◌ {A = ArcRow} (record { tail = s2.0; head = s3.0; low = pos 0; cap = pos s4.0; cost = pos 0 }) row = ok_is _ row s4.2 in
    record {
      lawful = subst (λ (r : ArcRow). IsLawfulRow nodes r) is (record { tail = (tail.above, tail.below); head = (head.above, head.below); low = omega (arith, ints); cap = omega (arith, ints); limit = omega (arith, ints, cap.below); cost = (omega (arith, ints), omega (arith, ints)) });
      fits = subst (λ (r : ArcRow). RowFits Max marks r) is (refl, refl);
      row_is = rw (tail.value, head.value, cap.value) is;
    }

read_asn_row-ok : (nodes : ℕ) (marks : List NodeMark) (fields : List Word) (row : ArcRow) → read_asn_row nodes marks fields ≡ Ok row → FieldsAreRow Asn nodes marks fields row
unfolding read_asn_row
read_asn_row-ok nodes marks fields row ok =
    let s1 = bind_ok (in_line (has_fields 3 fields)) (λ _. in_line (natural_in 1 nodes (field 0 fields)) >>= λ tail. in_line (natural_in 1 nodes (field 1 fields)) >>= λ head. in_line (integer_in COST_LIMIT (field 2 fields)) >>= λ cost. demand (is_named tail marks && not (is_named head marks)) fault.NotAcrossSides >>= λ _. Ok (record { tail = tail; head = head; low = pos 0; cap = pos 1; cost = cost })) row ok in
    let s2 = bind_ok (in_line (natural_in 1 nodes (field 0 fields))) (λ tail. in_line (natural_in 1 nodes (field 1 fields)) >>= λ head. in_line (integer_in COST_LIMIT (field 2 fields)) >>= λ cost. demand (is_named tail marks && not (is_named head marks)) fault.NotAcrossSides >>= λ _. Ok (record { tail = tail; head = head; low = pos 0; cap = pos 1; cost = cost })) row s1.2 in
    let s3 = bind_ok (in_line (natural_in 1 nodes (field 1 fields))) (λ head. in_line (integer_in COST_LIMIT (field 2 fields)) >>= λ cost. demand (is_named s2.0 marks && not (is_named head marks)) fault.NotAcrossSides >>= λ _. Ok (record { tail = s2.0; head = head; low = pos 0; cap = pos 1; cost = cost })) row s2.2 in
    let s4 = bind_ok (in_line (integer_in COST_LIMIT (field 2 fields))) (λ cost. demand (is_named s2.0 marks && not (is_named s3.0 marks)) fault.NotAcrossSides >>= λ _. Ok (record { tail = s2.0; head = s3.0; low = pos 0; cap = pos 1; cost = cost })) row s3.2 in
    let s5 = bind_ok (demand (is_named s2.0 marks && not (is_named s3.0 marks)) fault.NotAcrossSides) (λ _. Ok (record { tail = s2.0; head = s3.0; low = pos 0; cap = pos 1; cost = s4.0 })) row s4.2 in
    let tail = natural_in-ok 1 nodes (field 0 fields) s2.0 s2.1 in
    let head = natural_in-ok 1 nodes (field 1 fields) s3.0 s3.1 in
    let cost = integer_in-ok COST_LIMIT (field 2 fields) s4.0 s4.1 in
    let across = and_parts (is_named s2.0 marks) (not (is_named s3.0 marks)) (demand_ok _ _ s5.0 s5.1) in
    let is : ◌≡◌ {A = ArcRow} (record { tail = s2.0; head = s3.0; low = pos 0; cap = pos 1; cost = s4.0 }) row = ok_is _ row s5.2 in
    record {
      lawful = subst (λ (r : ArcRow). IsLawfulRow nodes r) is (record { tail = (tail.above, tail.below); head = (head.above, head.below); low = omega (arith, ints); cap = omega (arith, ints); limit = omega (arith, ints); cost = cost.within });
      fits = subst (λ (r : ArcRow). RowFits Asn marks r) is (refl, refl, across.0, not-true _ across.1);
      row_is = rw (tail.value, head.value, cost.value) is;
    }

read_row_of-ok : (kind : Kind) (nodes : ℕ) (marks : List NodeMark) (fields : List Word) (row : ArcRow) → read_row_of kind nodes marks fields ≡ Ok row → FieldsAreRow kind nodes marks fields row
read_row_of-ok Min nodes marks fields row ok = read_min_row-ok nodes marks fields row ok
read_row_of-ok Max nodes marks fields row ok = read_max_row-ok nodes marks fields row ok
read_row_of-ok Asn nodes marks fields row ok = read_asn_row-ok nodes marks fields row ok

-- what an arc line says
pub record RowIsRead (told : Parsed) (fields : List Word) (row : ArcRow) : Type 0 where
  pub size : Size
  pub size_is : told.size ≡ Some size
  pub room : length told.rows < size.arcs
  pub read : FieldsAreRow size.kind size.nodes told.marks fields row

pub read_row-ok : (told : Parsed) (fields : List Word) (row : ArcRow) → read_row told fields ≡ Ok row → RowIsRead told fields row
unfolding read_row
read_row-ok told fields row ok =
    let s1 = bind_ok (some_or told.size fault.BeforeProblemLine) (λ size. demand (has_terminals size.kind told.marks) fault.EndpointMissing >>= λ _. demand (nat_lt (length told.rows) size.arcs) fault.TooManyArcs >>= λ _. read_row_of size.kind size.nodes told.marks fields) row ok in
    let s2 = bind_ok (demand (has_terminals s1.0.kind told.marks) fault.EndpointMissing) (λ _. demand (nat_lt (length told.rows) s1.0.arcs) fault.TooManyArcs >>= λ _. read_row_of s1.0.kind s1.0.nodes told.marks fields) row s1.2 in
    let s3 = bind_ok (demand (nat_lt (length told.rows) s1.0.arcs) fault.TooManyArcs) (λ _. read_row_of s1.0.kind s1.0.nodes told.marks fields) row s2.2 in
    record {
      size = s1.0;
      size_is = some_or_ok told.size fault.BeforeProblemLine s1.0 s1.1;
      room = ltb-true _ _ (demand_ok _ _ s3.0 s3.1);
      read = read_row_of-ok s1.0.kind s1.0.nodes told.marks fields row s3.2;
    }

pub new_marks_are : (known : Option Size) (size : Size) (fields : List Word) (mark : NodeMark) → known ≡ Some size → mark_of size.kind fields ≡ mark → new_marks known fields ≡ mark ∷ []
new_marks_are known size fields mark e is = ap (λ (k : Option Size). new_marks k fields) e ∙ ap (λ (m : NodeMark). m ∷ []) is

pub new_rows_are : (known : Option Size) (size : Size) (fields : List Word) (row : ArcRow) → known ≡ Some size → row_of size.kind fields ≡ row → new_rows known fields ≡ row ∷ []
new_rows_are known size fields row e is = ap (λ (k : Option Size). new_rows k fields) e ∙ ap (λ (r : ArcRow). r ∷ []) is
