-- Lines that are read one after the other, by what the lines before them say.
use Rattle.std.proofs.Common.{◌≡◌, ℕ, ◌+◌, ◌<◌, ◌≤◌, ◌^◌, true, false, Some, None, Ok, ℤ, pos, List, [], ◌∷◌, ◌++◌, length, length-append, append-nil, append_assoc, nat_le, nat_lt, refl, sym, ap, subst, ◌∙◌, ◌==◌, arith}
use Rattle.std.proofs.lemmas.Bool.Decides.{nat_tests}
use Rattle.std.specs.Prelude.{unsigned_abs}
use Rattle.std.specs.Fmt.{decimal, signed_decimal}
use Rattle.std.specs.List.{list_all}
use Rattle.dimacs_lines.specs.Lines.{Line, is_too_long}
use Rattle.dimacs_lines.specs.Stream.{first_fault, fault_among}
use Rattle.dimacs_lines.specs.Fields.{words_of, IsNode}
use Rattle.dimacs_lines.specs.Checks.{natural_in}
use Rattle.answer_text.specs.declared.answer.FlowLine.{FlowLine}
use Rattle.answer_text.specs.Answer.{Said, said_of, and_said, answer_line_fault, answer_rule, read_value, read_flow, read_potential}
use Rattle.answer_text.proofs.SaidLemmas.{said_of_push}
use Rattle.std.proofs.lemmas.List.Folds.{list_all-append}
use Rattle.dimacs_lines.proofs.Written.{is_plain, natural_written, integer_written, word_then, last_word, letter_then, number_read, integer_read, value_read}

-- none of the lines is faulty, and with them what is said goes from the one to the other
abbrev pub Reads : ℕ → ℕ → Said → List Line → Said → Type 0
Reads nodes arcs s [] s' = s ≡ s'
Reads nodes arcs s (l ∷ ls) s' = (m : Said) × (is_too_long l ≡ false) × (answer_line_fault nodes arcs s l ≡ None) × (and_said s l ≡ m) × Reads nodes arcs m ls s'

pub Reads-append : (nodes arcs : ℕ) (ls ms : List Line) (s m s' : Said) → Reads nodes arcs s ls m → Reads nodes arcs m ms s' → Reads nodes arcs s (ls ++ ms) s'
Reads-append nodes arcs [] ms s m s' a b = subst (λ (x : Said). Reads nodes arcs x ms s') (sym a) b
Reads-append nodes arcs (l ∷ ls) ms s m s' a b = (a.0, a.1, a.2, a.3, Reads-append nodes arcs ls ms a.0 m s' a.4 b)

pub faultless : (nodes arcs : ℕ) (before ls : List Line) (s s' : Said) → said_of before ≡ s → Reads nodes arcs s ls s' → first_fault (answer_rule nodes arcs) before ls ≡ None
unfolding first_fault fault_among
faultless nodes arcs before [] s s' is r = refl
faultless nodes arcs before (l ∷ ls) s s' is r =
    rw (r.1, is, r.2) (faultless nodes arcs (before ++ l ∷ []) ls r.0 s' (said_of_push before l ∙ ap (λ (x : Said). and_said x l) is ∙ r.3) r.4)

pub said_at_end : (nodes arcs : ℕ) (before ls : List Line) (s s' : Said) → said_of before ≡ s → Reads nodes arcs s ls s' → said_of (before ++ ls) ≡ s'
said_at_end nodes arcs before [] s s' is r = rw (append-nil before) (is ∙ r)
said_at_end nodes arcs before (l ∷ ls) s s' is r =
    ap said_of (sym (append_assoc before (l ∷ []) ls)) ∙ said_at_end nodes arcs (before ++ l ∷ []) ls r.0 s' (said_of_push before l ∙ ap (λ (x : Said). and_said x l) is ∙ r.3) r.4

-- ---- the lines

abbrev pub told : ℤ → List FlowLine → List ℤ → Said
told w ls ps = record { value = Some w; flows = ls; potentials = ps; shortage = None; cut = [] }

abbrev pub nothing_told : Said
nothing_told = record { value = None; flows = []; potentials = []; shortage = None; cut = [] }

abbrev pub s_line : ℤ → Line
s_line w = 115 ∷ 32 ∷ signed_decimal w

abbrev pub f_line : FlowLine → Line
f_line l = 102 ∷ 32 ∷ (decimal l.tail ++ 32 ∷ (decimal l.head ++ 32 ∷ signed_decimal l.flow))

abbrev pub v_line : ℕ → ℤ → Line
v_line id p = 118 ∷ 32 ∷ (decimal id ++ 32 ∷ signed_decimal p)

pub short_line : (l : Line) → length l ≤ 100 → is_too_long l ≡ false
short_line l h = grind (arith, nat_tests)

-- the value
pub value_reads : (nodes arcs : ℕ) (w : ℤ) → unsigned_abs w < 10 ^ 30 → Reads nodes arcs nothing_told (s_line w ∷ []) (told w [] [])
unfolding read_value and_said
value_reads nodes arcs w small =
    let k = integer_written 30 w (omega arith) small (omega arith) in
    let words : words_of (s_line w) ≡ (115 ∷ []) ∷ signed_decimal w ∷ [] = letter_then 115 (signed_decimal w) refl ∙ rw (last_word (signed_decimal w) k.some k.solid) refl in
    (told w [] [], short_line (s_line w) (omega (arith, k.short)), rw (words, value_read w small) refl, rw (words, value_read w small) refl, refl)

le_true : (a b : ℕ) → a ≤ b → nat_le a b ≡ true
le_true a b h = grind (arith, nat_tests)

pub lt_true : (a b : ℕ) → a < b → nat_lt a b ≡ true
lt_true a b h = grind (arith, nat_tests)

pub same_number : (a b : ℕ) → a ≡ b → (a == b) ≡ true
same_number a b e = grind (arith, nat_tests)

pub node_in : (nodes v : ℕ) → IsNode nodes v → nodes < 10 ^ 18 → natural_in 1 nodes (decimal v) ≡ Ok v
node_in nodes v is few = rw (number_read v (omega (arith, is.0, is.1)), le_true 1 v is.0, le_true v nodes is.1) refl

-- a flow line
module _ (nodes arcs : ℕ) (few : nodes < 10 ^ 18) (w : ℤ) (done : List FlowLine) (l : FlowLine) (room : length done < arcs) (tail : IsNode nodes l.tail) (head : IsNode nodes l.head) (x : ℕ) (flow_is : l.flow ≡ pos x) (small : x < 10 ^ 18) where
  flow_words : words_of (f_line l) ≡ (102 ∷ []) ∷ decimal l.tail ∷ decimal l.head ∷ decimal x ∷ []
  flow_words =
      let a = natural_written 18 l.tail (omega arith) (omega (arith, tail.1)) (omega (arith, tail.1)) in
      let b = natural_written 18 l.head (omega arith) (omega (arith, head.1)) (omega (arith, head.1)) in
      let c = natural_written 18 x (omega arith) small (omega arith) in
      ap (λ (z : ℤ). words_of (102 ∷ 32 ∷ (decimal l.tail ++ 32 ∷ (decimal l.head ++ 32 ∷ signed_decimal z)))) flow_is
      ∙ letter_then 102 (decimal l.tail ++ 32 ∷ (decimal l.head ++ 32 ∷ decimal x)) refl
      ∙ rw (word_then (decimal l.tail) (decimal l.head ++ 32 ∷ decimal x) a.some a.solid, word_then (decimal l.head) (decimal x) b.some b.solid, last_word (decimal x) c.some c.solid) refl

  flow_short : is_too_long (f_line l) ≡ false
  flow_short =
      let a = natural_written 18 l.tail (omega arith) (omega (arith, tail.1)) (omega (arith, tail.1)) in
      let b = natural_written 18 l.head (omega arith) (omega (arith, head.1)) (omega (arith, head.1)) in
      let c = natural_written 18 x (omega arith) small (omega arith) in
      let e : length (signed_decimal l.flow) ≡ length (decimal x) = ap (λ (z : ℤ). length (signed_decimal z)) flow_is in
      short_line (f_line l) (omega (arith, a.short, b.short, c.short, e, length-append (decimal l.tail) (32 ∷ (decimal l.head ++ 32 ∷ signed_decimal l.flow)), length-append (decimal l.head) (32 ∷ signed_decimal l.flow)))

  flow_faultless : answer_line_fault nodes arcs (told w done []) (f_line l) ≡ None
  unfolding read_flow
  flow_faultless = rw (flow_words, lt_true (length done) arcs room, node_in nodes l.tail tail few, node_in nodes l.head head few, number_read x small) refl

  flow_said_is : and_said (told w done []) (f_line l) ≡ told w (done ++ l ∷ []) []
  unfolding and_said
  flow_said_is = rw (flow_words, number_read l.tail (omega (arith, tail.1)), number_read l.head (omega (arith, head.1)), number_read x small) (ap (λ (z : ℤ). told w (done ++ record { tail = l.tail; head = l.head; flow = z } ∷ []) []) (sym flow_is))

  pub flow_reads : Reads nodes arcs (told w done []) (f_line l ∷ []) (told w (done ++ l ∷ []) [])
  flow_reads = (told w (done ++ l ∷ []) [], flow_short, flow_faultless, flow_said_is, refl)

  pub flow_plain : list_all is_plain (f_line l) ≡ true
  flow_plain =
      let a = natural_written 18 l.tail (omega arith) (omega (arith, tail.1)) (omega (arith, tail.1)) in
      let b = natural_written 18 l.head (omega arith) (omega (arith, head.1)) (omega (arith, head.1)) in
      let c = natural_written 18 x (omega arith) small (omega arith) in
      ap (λ (z : ℤ). list_all is_plain (102 ∷ 32 ∷ (decimal l.tail ++ 32 ∷ (decimal l.head ++ 32 ∷ signed_decimal z)))) flow_is
      ∙ rw (list_all-append is_plain (decimal l.tail) (32 ∷ (decimal l.head ++ 32 ∷ decimal x)), list_all-append is_plain (decimal l.head) (32 ∷ decimal x), a.plain, b.plain, c.plain) refl

-- a potential line
module _ (nodes arcs : ℕ) (few : nodes < 10 ^ 18) (w : ℤ) (ls : List FlowLine) (all : length ls ≡ arcs) (done : List ℤ) (p : ℤ) (room : length done < nodes) (small : unsigned_abs p < 10 ^ 18) where
  abbrev id : ℕ
  id = length done + 1

  potential_words : words_of (v_line id p) ≡ (118 ∷ []) ∷ decimal id ∷ signed_decimal p ∷ []
  potential_words =
      let a = natural_written 18 id (omega arith) (omega arith) (omega arith) in
      let b = integer_written 18 p (omega arith) small (omega arith) in
      letter_then 118 (decimal id ++ 32 ∷ signed_decimal p) refl
      ∙ rw (word_then (decimal id) (signed_decimal p) a.some a.solid, last_word (signed_decimal p) b.some b.solid) refl

  potential_short : is_too_long (v_line id p) ≡ false
  potential_short =
      let a = natural_written 18 id (omega arith) (omega arith) (omega arith) in
      let b = integer_written 18 p (omega arith) small (omega arith) in
      short_line (v_line id p) (omega (arith, a.short, b.short, length-append (decimal id) (32 ∷ signed_decimal p)))

  potential_faultless : answer_line_fault nodes arcs (told w ls done) (v_line id p) ≡ None
  unfolding read_potential
  potential_faultless = rw (potential_words, same_number (length ls) arcs all, lt_true (length done) nodes room, node_in nodes id (omega arith, omega arith) few, integer_read p small, same_number id id refl) refl

  potential_said_is : and_said (told w ls done) (v_line id p) ≡ told w ls (done ++ p ∷ [])
  unfolding and_said
  potential_said_is = rw (potential_words, integer_read p small) (ap (λ (fs : List FlowLine). told w fs (done ++ p ∷ [])) (append-nil ls))

  pub potential_reads : Reads nodes arcs (told w ls done) (v_line id p ∷ []) (told w ls (done ++ p ∷ []))
  potential_reads = (told w ls (done ++ p ∷ []), potential_short, potential_faultless, potential_said_is, refl)

  pub potential_plain : list_all is_plain (v_line id p) ≡ true
  potential_plain =
      let a = natural_written 18 id (omega arith) (omega arith) (omega arith) in
      let b = integer_written 18 p (omega arith) small (omega arith) in
      rw (list_all-append is_plain (decimal id) (32 ∷ signed_decimal p), a.plain, b.plain) refl
