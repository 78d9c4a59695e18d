-- Arc lines without a fault.
use Rattle.std.proofs.Common.{◌≡◌, ℕ, ◌<◌, ◌≤◌, true, false, List, [], ◌∷◌, length, Option, Some, None, IfSome, Ok, ℤ, pos, neg_ℤ, ◌≤ℤ◌, int_le, refl, arith}
use Rattle.std.proofs.lemmas.Bool.{le-leb, lt-ltb}
use Rattle.dimacs_lines.specs.Fields.{Word, natural, integer, IsNode}
use Rattle.dimacs_lines.specs.Checks.{natural_in, integer_in}
use Rattle.dimacs_lines.specs.Front.{IsNextNatural, IsNextInteger, EndsLine}
use Rattle.dimacs_lines.proofs.FrontLemmas.{word_more}
use Rattle.dimacs_text.specs.Lawful.{IsWithin, AreTerminals}
use Rattle.dimacs_text.specs.declared.problem.Kind.TheVariants.{Max}
use Rattle.dimacs_text.specs.declared.problem.Size.{Size}
use Rattle.dimacs_text.specs.declared.problem.ArcRow.{ArcRow}
use Rattle.dimacs_text.specs.declared.problem.NodeMark.{NodeMark}
use Rattle.dimacs_text.specs.declared.problem.NodeMark.TheVariants.{Supply, Source, Sink, Side}
use Rattle.dimacs_text.specs.declared.problem.TheConstants.{CAP_LIMIT, COST_LIMIT, SUPPLY_LIMIT}
use Rattle.dimacs_text.specs.Problem.{Parsed, is_named, has_terminals, read_min_row, read_max_row, read_asn_row, read_row, read_row_of, read_supply, read_side, read_mark, read_mark_of}
use Rattle.dimacs_text.specs.Reading.{Says}

number_in : (low high : ℕ) (word : Word) (value : ℕ) → natural word ≡ Some value → low ≤ value → value ≤ high → natural_in low high word ≡ Ok value
number_in low high word value e above below = rw (e, le-leb low value above, le-leb value high below) refl

int_le-true : (a b : ℤ) → a ≤ℤ b → int_le a b ≡ true
int_le-true a b h = grind arith

signed_in : (limit : ℤ) (word : Word) (value : ℤ) → integer word ≡ Some value → IsWithin limit value → integer_in limit word ≡ Ok value
signed_in limit word value e within = rw (e, int_le-true (neg_ℤ limit) value within.0, int_le-true value limit within.1) refl

pub plain_min : (nodes : ℕ) (a b c d e : Word) (tail head low cap : ℕ) (cost : ℤ) → natural a ≡ Some tail → natural b ≡ Some head → natural c ≡ Some low → natural d ≡ Some cap → integer e ≡ Some cost
    → IsNode nodes tail → IsNode nodes head → low ≤ cap → cap ≤ CAP_LIMIT → IsWithin COST_LIMIT cost
    → read_min_row nodes (a ∷ b ∷ c ∷ d ∷ e ∷ []) ≡ Ok (record { tail = tail; head = head; low = pos low; cap = pos cap; cost = cost })
unfolding read_min_row
plain_min nodes a b c d e tail head low cap cost tail_is head_is low_is cap_is cost_is tail_in head_in order fits within =
    rw (
      number_in 1 nodes a tail tail_is tail_in.0 tail_in.1,
      number_in 1 nodes b head head_is head_in.0 head_in.1,
      number_in 0 CAP_LIMIT c low low_is (omega arith) (omega arith),
      number_in 0 CAP_LIMIT d cap cap_is (omega arith) fits,
      signed_in COST_LIMIT e cost cost_is within,
      le-leb low cap order,
    ) refl

pub plain_max : (nodes : ℕ) (a b c : Word) (tail head cap : ℕ) → natural a ≡ Some tail → natural b ≡ Some head → natural c ≡ Some cap
    → IsNode nodes tail → IsNode nodes head → cap ≤ CAP_LIMIT
    → read_max_row nodes (a ∷ b ∷ c ∷ []) ≡ Ok (record { tail = tail; head = head; low = pos 0; cap = pos cap; cost = pos 0 })
unfolding read_max_row
plain_max nodes a b c tail head cap tail_is head_is cap_is tail_in head_in fits =
    rw (number_in 1 nodes a tail tail_is tail_in.0 tail_in.1, number_in 1 nodes b head head_is head_in.0 head_in.1, number_in 0 CAP_LIMIT c cap cap_is (omega arith) fits) refl

pub plain_asn : (nodes : ℕ) (marks : List NodeMark) (a b c : Word) (tail head : ℕ) (cost : ℤ) → natural a ≡ Some tail → natural b ≡ Some head → integer c ≡ Some cost
    → IsNode nodes tail → IsNode nodes head → IsWithin COST_LIMIT cost → is_named tail marks ≡ true → is_named head marks ≡ false
    → read_asn_row nodes marks (a ∷ b ∷ c ∷ []) ≡ Ok (record { tail = tail; head = head; low = pos 0; cap = pos 1; cost = cost })
unfolding read_asn_row
plain_asn nodes marks a b c tail head cost tail_is head_is cost_is tail_in head_in within from_side to_side =
    rw (number_in 1 nodes a tail tail_is tail_in.0 tail_in.1, number_in 1 nodes b head head_is head_in.0 head_in.1, signed_in COST_LIMIT c cost cost_is within, from_side, to_side) refl

pub plain_supply : (nodes : ℕ) (marks : List NodeMark) (a b : Word) (id : ℕ) (value : ℤ) → natural a ≡ Some id → integer b ≡ Some value → IsNode nodes id → IsWithin SUPPLY_LIMIT value → is_named id marks ≡ false
    → read_supply nodes marks (a ∷ b ∷ []) ≡ Ok (Supply id value)
unfolding read_supply
plain_supply nodes marks a b id value id_is value_is id_in within fresh =
    rw (number_in 1 nodes a id id_is id_in.0 id_in.1, signed_in SUPPLY_LIMIT b value value_is within, fresh) refl

pub plain_side : (nodes : ℕ) (marks : List NodeMark) (a : Word) (id : ℕ) → natural a ≡ Some id → IsNode nodes id → is_named id marks ≡ false → read_side nodes marks (a ∷ []) ≡ Ok (Side id)
unfolding read_side
plain_side nodes marks a id id_is id_in fresh = rw (number_in 1 nodes a id id_is id_in.0 id_in.1, fresh) refl

-- ---- the first line of a text, by its words

module _ (nodes : ℕ) (marks : List NodeMark) (text : List ℕ) where
  pub min_said : (tail head low cap used : ℕ) (cost : ℤ) (to_tail to_head to_low to_cap to_cost : ℕ) → IsNextNatural text 1 tail to_tail → IsNextNatural text to_tail head to_head → IsNextNatural text to_head low to_low
      → IsNextNatural text to_low cap to_cap → IsNextInteger text to_cap cost to_cost → EndsLine text to_cost used → IsNode nodes tail → IsNode nodes head → low ≤ cap → cap ≤ CAP_LIMIT → IsWithin COST_LIMIT cost
      → Says (read_min_row nodes) text (record { tail = tail; head = head; low = pos low; cap = pos cap; cost = cost }) used
  min_said tail head low cap used cost to_tail to_head to_low to_cap to_cost a b c d e last tail_in head_in order fits within = record {
    fields = a.0 ∷ b.0 ∷ c.0 ∷ d.0 ∷ e.0 ∷ [];
    is_read = plain_min nodes a.0 b.0 c.0 d.0 e.0 tail head low cap cost a.1 b.1 c.1 d.1 e.1 tail_in head_in order fits within;
    fields_are =
        word_more text 1 to_tail used a.0 (b.0 ∷ c.0 ∷ d.0 ∷ e.0 ∷ []) a.2 (word_more text to_tail to_head used b.0 (c.0 ∷ d.0 ∷ e.0 ∷ []) b.2 (word_more text to_head to_low used c.0 (d.0 ∷ e.0 ∷ []) c.2
        (word_more text to_low to_cap used d.0 (e.0 ∷ []) d.2 (word_more text to_cap to_cost used e.0 [] e.2 last))));
  }

  pub max_said : (tail head cap used to_tail to_head to_cap : ℕ) → IsNextNatural text 1 tail to_tail → IsNextNatural text to_tail head to_head → IsNextNatural text to_head cap to_cap → EndsLine text to_cap used
      → IsNode nodes tail → IsNode nodes head → cap ≤ CAP_LIMIT → Says (read_max_row nodes) text (record { tail = tail; head = head; low = pos 0; cap = pos cap; cost = pos 0 }) used
  max_said tail head cap used to_tail to_head to_cap a b c last tail_in head_in fits = record {
    fields = a.0 ∷ b.0 ∷ c.0 ∷ [];
    is_read = plain_max nodes a.0 b.0 c.0 tail head cap a.1 b.1 c.1 tail_in head_in fits;
    fields_are = word_more text 1 to_tail used a.0 (b.0 ∷ c.0 ∷ []) a.2 (word_more text to_tail to_head used b.0 (c.0 ∷ []) b.2 (word_more text to_head to_cap used c.0 [] c.2 last));
  }

  pub asn_said : (tail head used : ℕ) (cost : ℤ) (to_tail to_head to_cost : ℕ) → IsNextNatural text 1 tail to_tail → IsNextNatural text to_tail head to_head → IsNextInteger text to_head cost to_cost → EndsLine text to_cost used
      → IsNode nodes tail → IsNode nodes head → IsWithin COST_LIMIT cost → is_named tail marks ≡ true → is_named head marks ≡ false
      → Says (read_asn_row nodes marks) text (record { tail = tail; head = head; low = pos 0; cap = pos 1; cost = cost }) used
  asn_said tail head used cost to_tail to_head to_cost a b c last tail_in head_in within from_side to_side = record {
    fields = a.0 ∷ b.0 ∷ c.0 ∷ [];
    is_read = plain_asn nodes marks a.0 b.0 c.0 tail head cost a.1 b.1 c.1 tail_in head_in within from_side to_side;
    fields_are = word_more text 1 to_tail used a.0 (b.0 ∷ c.0 ∷ []) a.2 (word_more text to_tail to_head used b.0 (c.0 ∷ []) b.2 (word_more text to_head to_cost used c.0 [] c.2 last));
  }

  pub supply_said : (id used : ℕ) (value : ℤ) (to_id to_value : ℕ) → IsNextNatural text 1 id to_id → IsNextInteger text to_id value to_value → EndsLine text to_value used → IsNode nodes id → IsWithin SUPPLY_LIMIT value
      → is_named id marks ≡ false → Says (read_supply nodes marks) text (Supply id value) used
  supply_said id used value to_id to_value a b last id_in within fresh = record {
    fields = a.0 ∷ b.0 ∷ [];
    is_read = plain_supply nodes marks a.0 b.0 id value a.1 b.1 id_in within fresh;
    fields_are = word_more text 1 to_id used a.0 (b.0 ∷ []) a.2 (word_more text to_id to_value used b.0 [] b.2 last);
  }

  pub side_said : (id used to_id : ℕ) → IsNextNatural text 1 id to_id → EndsLine text to_id used → IsNode nodes id → is_named id marks ≡ false → Says (read_side nodes marks) text (Side id) used
  side_said id used to_id a last id_in fresh = record {
    fields = a.0 ∷ [];
    is_read = plain_side nodes marks a.0 id a.1 id_in fresh;
    fields_are = word_more text 1 to_id used a.0 [] a.2 last;
  }

-- ---- and by what stands before it

-- two marks are those of both terminals
pub both_named : (marks : List NodeMark) → AreTerminals marks → length marks ≡ 2 → has_terminals Max marks ≡ true
both_named [] are two = absurd (omega arith)
both_named (first ∷ []) are two = absurd (omega arith)
both_named (Source a ∷ Sink b ∷ []) are two = refl
both_named (Sink a ∷ Source b ∷ []) are two = refl
both_named (first ∷ second ∷ []) are two = absurd are
both_named (first ∷ second ∷ third ∷ marks) are two = absurd are

module _ (told : Parsed) (size : Size) (text : List ℕ) (size_is : told.size ≡ Some size) where
  pub row_said : (read : Option (ArcRow × ℕ)) → has_terminals size.kind told.marks ≡ true → length told.rows < size.arcs
      → IfSome read (λ first. Says (read_row_of size.kind size.nodes told.marks) text first.0 first.1) → IfSome read (λ first. Says (read_row told) text first.0 first.1)
  unfolding read_row
  row_said None named room said = tt
  row_said (Some first) named room said = record {
    fields = said.fields;
    is_read = rw (size_is, named, lt-ltb (length told.rows) size.arcs room) said.is_read;
    fields_are = said.fields_are;
  }

  pub mark_said : (read : Option (NodeMark × ℕ)) → length told.rows ≡ 0
      → IfSome read (λ first. Says (read_mark_of size.kind size.nodes told.marks) text first.0 first.1) → IfSome read (λ first. Says (read_mark told) text first.0 first.1)
  unfolding read_mark
  mark_said None no_rows said = tt
  mark_said (Some first) no_rows said = record {
    fields = said.fields;
    is_read = rw (size_is, no_rows) said.is_read;
    fields_are = said.fields_are;
  }
