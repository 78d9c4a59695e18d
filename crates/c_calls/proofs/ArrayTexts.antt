-- The text that says what arrays say is read as their problem, or has their fault.
use Rattle.std.proofs.Common.{◌≡◌, ℕ, zero, suc, ◌+◌, ◌<◌, ◌≤◌, ◌==◌, ◌^◌, Bool, true, false, List, [], ◌∷◌, ◌++◌, map, drop, length, slice_index_or, flat_map, None, Some, Option, Result, Ok, Err, ℤ, pos, negsuc, ◌≤ℤ◌, int_le, nat_le, nat_lt, add-one, append-nil, append_assoc, length-append, refl, sym, ap, subst, ◌∙◌, inl, inr, arith}
use Rattle.std.specs.Prelude.{unsigned_abs, codes}
use Rattle.std.specs.Fmt.{decimal, signed_decimal}
use Rattle.std.specs.List.{range_with_len}
use Rattle.std.proofs.lemmas.Bool.{ne_eqb}
use Rattle.std.proofs.lemmas.Bool.Decides.{nat_tests}
use Rattle.std.proofs.lemmas.Int.{ints}
use Rattle.std.proofs.lemmas.List.Folds.{list_any_none}
use Rattle.std.proofs.lemmas.List.FromFn.{get_or-map-range_with_len, length-map-range_with_len, map-range_with_len_more, take-map-range_with_len}
use Rattle.std.proofs.Math.Seq.{split_at}
use Rattle.dimacs_lines.specs.Checks.{◌>>=◌, demand}
use Rattle.dimacs_lines.specs.declared.fault.LineFault.{LineFault}
use Rattle.dimacs_lines.specs.declared.fault.TextFault.TheVariants as text_fault
use Rattle.dimacs_lines.specs.Lines.{Line, is_too_long, lines_of}
use Rattle.dimacs_lines.specs.Stream.{at_line, counted, first_fault, fault_among}
use Rattle.dimacs_lines.proofs.Cutting.{AllPlain, AllPlain-append, joined, lines_joined, plain}
use Rattle.dimacs_lines.proofs.Written.{integer_read, number_read}
use Rattle.dimacs_text.specs.declared.problem_fault.ProblemFault.{ProblemFault}
use Rattle.dimacs_text.specs.declared.problem_fault.ProblemFault.TheVariants as fault
use Rattle.dimacs_text.specs.ProblemFault.{in_line}
use Rattle.dimacs_text.specs.declared.problem.ArcRow.{ArcRow}
use Rattle.dimacs_text.specs.declared.problem.Kind.TheVariants.{Min}
use Rattle.dimacs_text.specs.declared.problem.NodeMark.{NodeMark}
use Rattle.dimacs_text.specs.declared.problem.NodeMark.TheVariants.{Supply}
use Rattle.dimacs_text.specs.declared.problem.TheConstants.{NODE_LIMIT, ARC_LIMIT, COST_LIMIT, SUPPLY_LIMIT}
use Rattle.dimacs_text.specs.Problem.{Parsed, and_parsed, fault_of, is_named, line_fault, node_of, parsed_of, read_mark, read_min_row, read_row, read_size, read_supply}
use Rattle.dimacs_text.specs.Lawful.{IsLawfulRow}
use Rattle.dimacs_text.specs.Reading.{problem_rule, reads}
use Rattle.dimacs_text.proofs.ProblemLemmas.{parsed_of_push}
use Rattle.dimacs_text.proofs.ReadLemmas.{reads_ok, parsed_of_nothing}
use Rattle.c_calls.specs.ArrayText.{FitTheirTypes, arc_line, arc_line_at, arc_lines, array_text, fault_line, node_line, node_line_at, node_lines, size_line}
use Rattle.c_calls.specs.Arrays.{AreFaultless, AreSuppliesFaultless, FailsBy, IsArcFault, IsCountFault, IsEven, IsFirstFault, IsNodeFault, array_row, mark_at, problem_of, test_bound, test_counts, test_integer, test_natural, test_row}
use Rattle.c_calls.specs.declared.array_fault.ArrayFault.{ArrayFault}
use Rattle.c_calls.specs.declared.arrays.Arrays.{Arrays}
use Rattle.c_calls.proofs.ArrayLemmas.{bound_within, counts_within, integer_within, row_lawful}
use Rattle.c_calls.proofs.ArrayLines.{FitsItsTypes, IsLine, arc_is_line, bound_field, integer_field, natural_field, node_is_line, size_is_line}

-- ---- lines that are read one after the other

abbrev Reads : Parsed → List Line → Parsed → Type 0
Reads s [] s' = s ≡ s'
Reads s (l ∷ ls) s' = (m : Parsed) × (is_too_long l ≡ false) × (line_fault s l ≡ None) × (and_parsed s l ≡ m) × Reads m ls s'

Reads-append : (ls ms : List Line) (s m s' : Parsed) → Reads s ls m → Reads m ms s' → Reads s (ls ++ ms) s'
Reads-append [] ms s m s' a b = subst (λ (x : Parsed). Reads x ms s') (sym a) b
Reads-append (l ∷ ls) ms s m s' a b = (a.0, a.1, a.2, a.3, Reads-append ls ms a.0 m s' a.4 b)

Reads-along : (s : Parsed) {ls ms : List Line} {t u : Parsed} → ls ≡ ms → t ≡ u → Reads s ms u → Reads s ls t
Reads-along s {ls} {ms} {t} {u} same ends r = subst (λ (x : List Line). Reads s x t) (sym same) (subst (λ (x : Parsed). Reads s ms x) (sym ends) r)

parsed_push : (before : List Line) (l : Line) (s m : Parsed) → parsed_of before ≡ s → and_parsed s l ≡ m → parsed_of (before ++ l ∷ []) ≡ m
parsed_push before l s m is next = parsed_of_push before l ∙ ap (λ (x : Parsed). and_parsed x l) is ∙ next

faultless : (before ls : List Line) (s s' : Parsed) → parsed_of before ≡ s → Reads s ls s' → first_fault problem_rule before ls ≡ None
unfolding first_fault fault_among
faultless before [] s s' is r = refl
faultless before (l ∷ ls) s s' is r =
    rw (r.1, is, r.2) (faultless (before ++ l ∷ []) ls r.0 s' (parsed_push before l s r.0 is r.3) r.4)

parsed_at_end : (before ls : List Line) (s s' : Parsed) → parsed_of before ≡ s → Reads s ls s' → parsed_of (before ++ ls) ≡ s'
parsed_at_end before [] s s' is r = rw (append-nil before) (is ∙ r)
parsed_at_end before (l ∷ ls) s s' is r =
    ap parsed_of (sym (append_assoc before (l ∷ []) ls)) ∙ parsed_at_end (before ++ l ∷ []) ls r.0 s' (parsed_push before l s r.0 is r.3) r.4

-- the first line with a fault
faulty : (before ls : List Line) (l : Line) (rest : List Line) (s s' : Parsed) (f at : ℕ) → parsed_of before ≡ s → Reads s ls s' → is_too_long l ≡ false → line_fault s' l ≡ Some f
    → length before + length ls + 1 ≡ at → first_fault problem_rule before (ls ++ l ∷ rest) ≡ Some (at_line f at)
unfolding first_fault fault_among
faulty before [] l rest s s' f at is r short found count =
    let here : length before + 1 ≡ at = omega arith in
    rw (short, is ∙ r, found, here) refl
faulty before (k ∷ ls) l rest s s' f at is r short found count =
    let more : length (before ++ k ∷ []) + length ls + 1 ≡ at = omega (arith, length-append before (k ∷ [])) in
    rw (r.1, is, r.2) (faulty (before ++ k ∷ []) ls l rest r.0 s' f at (parsed_push before k s r.0 is r.3) r.4 short found more)

-- ---- the fault of a line by the tests of its numbers

lt_true : (a b : ℕ) → a < b → nat_lt a b ≡ true
lt_true a b h = grind (arith, nat_tests)

le_true : (a b : ℕ) → a ≤ b → nat_le a b ≡ true
le_true a b h = grind (arith, nat_tests)

natural_passes : (low high n : ℕ) → low ≤ n → n ≤ high → high < 10 ^ 18 → test_natural low high n ≡ Ok tt
unfolding test_natural
natural_passes low high n least most few = rw (lt_true n (10 ^ 18) (omega arith), le_true low n least, le_true n high most) refl

abbrev told : ℕ → ℕ → List NodeMark → List ArcRow → Parsed
told nodes arcs marks rows = record { size = Some (record { kind = Min; nodes = nodes; arcs = arcs }); marks = marks; rows = rows }

abbrev nothing_told : Parsed
nothing_told = record { size = None; marks = []; rows = [] }

two_tests : {A : Type 0} (r q : Result (Unit {0}) LineFault) (n m : ℕ) (made : ℕ → ℕ → A)
    → fault_of (in_line (r >>= λ _. Ok n) >>= λ x. in_line (q >>= λ _. Ok m) >>= λ y. Ok (made x y)) ≡ fault_of (in_line (r >>= λ _. q))
two_tests (Err f) q n m made = refl
two_tests (Ok x) (Err f) n m made = refl
two_tests (Ok x) (Ok y) n m made = refl

size_fault : (nodes arcs : ℕ) → nodes < 2 ^ 64 → arcs < 2 ^ 64 → line_fault nothing_told (size_line nodes arcs) ≡ fault_of (in_line (test_counts nodes arcs))
unfolding read_size test_counts
size_fault nodes arcs few_nodes few_arcs =
    let line = size_is_line nodes arcs few_nodes few_arcs in
    rw (line.words_are, natural_field 1 NODE_LIMIT nodes (omega arith), natural_field 0 ARC_LIMIT arcs (omega arith))
    (two_tests (test_natural 1 NODE_LIMIT nodes) (test_natural 0 ARC_LIMIT arcs) nodes arcs (λ x y. record { kind = Min; nodes = x; arcs = y }))

size_parsed : (nodes arcs : ℕ) → nodes ≤ NODE_LIMIT → arcs ≤ ARC_LIMIT → and_parsed nothing_told (size_line nodes arcs) ≡ told nodes arcs [] []
unfolding and_parsed
size_parsed nodes arcs few_nodes few_arcs =
    let line = size_is_line nodes arcs (omega arith) (omega arith) in
    rw (line.words_are, number_read nodes (omega arith), number_read arcs (omega arith)) refl

-- a node line, where marks of other nodes stand before it
node_fault : (nodes arcs : ℕ) (done : List NodeMark) (id : ℕ) (supply : ℤ) → 1 ≤ id → id ≤ nodes → nodes ≤ NODE_LIMIT → unsigned_abs supply ≤ 2 ^ 63 → is_named id done ≡ false
    → line_fault (told nodes arcs done []) (node_line id supply) ≡ fault_of (in_line (test_integer SUPPLY_LIMIT supply))
unfolding read_mark read_supply
node_fault nodes arcs done id supply least most few small fresh =
    let line = node_is_line id supply (omega arith) small in
    rw (line.words_are, natural_field 1 nodes id (omega arith), passed, integer_field SUPPLY_LIMIT supply small, fresh) (one_test (test_integer SUPPLY_LIMIT supply) supply (Supply id))
  where
    passed : test_natural 1 nodes id ≡ Ok tt
    passed = natural_passes 1 nodes id least most (omega arith)

    one_test : (r : Result (Unit {0}) LineFault) (z : ℤ) (made : ℤ → NodeMark) → fault_of (in_line (r >>= λ _. Ok z) >>= λ x. demand true fault.NamedTwice >>= λ _. Ok (made x)) ≡ fault_of (in_line r)
    one_test (Err f) z made = refl
    one_test (Ok x) z made = refl

node_parsed : (nodes arcs : ℕ) (done : List NodeMark) (id : ℕ) (supply : ℤ) → id ≤ NODE_LIMIT → test_integer SUPPLY_LIMIT supply ≡ Ok tt
    → and_parsed (told nodes arcs done []) (node_line id supply) ≡ told nodes arcs (done ++ Supply id supply ∷ []) []
unfolding and_parsed
node_parsed nodes arcs done id supply few passes =
    let within = integer_within SUPPLY_LIMIT supply passes in
    let small : unsigned_abs supply < 10 ^ 18 = omega (arith, ints, within.0, within.1) in
    let line = node_is_line id supply (omega arith) (omega arith) in
    rw (line.words_are, number_read id (omega arith), integer_read supply small) refl

-- an arc line, where there is room for it
le_same : (a b : ℤ) → pos 0 ≤ℤ a → pos 0 ≤ℤ b → nat_le (unsigned_abs a) (unsigned_abs b) ≡ int_le a b
le_same (pos a) (pos b) ha hb = refl
le_same (pos a) (negsuc b) ha hb = absurd (omega (arith, ints))
le_same (negsuc a) b ha hb = absurd (omega (arith, ints))

five_tests : (r q s t u : Result (Unit {0}) LineFault) (tail head low cap : ℕ) (cost : ℤ) (met : Bool) (made : ℕ → ℕ → ℕ → ℕ → ℤ → ArcRow) → (s ≡ Ok tt → t ≡ Ok tt → nat_le low cap ≡ met)
    → fault_of (in_line (r >>= λ _. Ok tail) >>= λ tail. in_line (q >>= λ _. Ok head) >>= λ head. in_line (s >>= λ _. Ok low) >>= λ low. in_line (t >>= λ _. Ok cap) >>= λ cap. in_line (u >>= λ _. Ok cost) >>= λ cost.
    demand (nat_le low cap) fault.LowAboveCap >>= λ _. Ok (made tail head low cap cost))
    ≡ fault_of (in_line r >>= λ _. in_line q >>= λ _. in_line s >>= λ _. in_line t >>= λ _. in_line u >>= λ _. demand met fault.LowAboveCap)
five_tests (Err f) q s t u tail head low cap cost met made same = refl
five_tests (Ok x) (Err f) s t u tail head low cap cost met made same = refl
five_tests (Ok x) (Ok y) (Err f) t u tail head low cap cost met made same = refl
five_tests (Ok x) (Ok y) (Ok z) (Err f) u tail head low cap cost met made same = refl
five_tests (Ok x) (Ok y) (Ok z) (Ok v) (Err f) tail head low cap cost met made same = refl
five_tests (Ok x) (Ok y) (Ok z) (Ok v) (Ok w) tail head low cap cost met made same = rw (same refl refl) (last met)
  where
    last : (b : Bool) → fault_of (demand b fault.LowAboveCap >>= λ _. Ok (made tail head low cap cost)) ≡ fault_of (demand b fault.LowAboveCap)
    last true = refl
    last false = refl

arc_fault : (nodes arcs : ℕ) (marks : List NodeMark) (done : List ArcRow) (row : ArcRow) → length done < arcs → FitsItsTypes row
    → line_fault (told nodes arcs marks done) (arc_line row) ≡ fault_of (test_row nodes row)
unfolding read_row read_min_row test_row
arc_fault nodes arcs marks done row room fits =
    let line = arc_is_line row fits in
    rw (
      line.words_are,
      lt_true (length done) arcs room,
      natural_field 1 nodes row.tail (omega (arith, fits.tail)),
      natural_field 1 nodes row.head (omega (arith, fits.head)),
      bound_field row.low fits.low,
      bound_field row.cap fits.cap,
      integer_field COST_LIMIT row.cost fits.cost,
    ) (five_tests (test_natural 1 nodes row.tail) (test_natural 1 nodes row.head) (test_bound row.low) (test_bound row.cap) (test_integer COST_LIMIT row.cost)
    row.tail row.head (unsigned_abs row.low) (unsigned_abs row.cap) row.cost (int_le row.low row.cap)
    (λ tail head low cap cost. record { tail = tail; head = head; low = pos low; cap = pos cap; cost = cost })
    (λ low cap. le_same row.low row.cap (bound_within row.low low).0 (bound_within row.cap cap).0))

not_negative : (z : ℤ) → pos 0 ≤ℤ z → pos (unsigned_abs z) ≡ z
not_negative (pos n) h = refl
not_negative (negsuc n) h = absurd (omega (arith, ints))

signed_natural : (z : ℤ) → pos 0 ≤ℤ z → signed_decimal z ≡ decimal (unsigned_abs z)
signed_natural (pos n) h = refl
signed_natural (negsuc n) h = absurd (omega (arith, ints))

arc_parsed : (nodes arcs : ℕ) (marks : List NodeMark) (done : List ArcRow) (row : ArcRow) → nodes ≤ NODE_LIMIT → IsLawfulRow nodes row → FitsItsTypes row
    → and_parsed (told nodes arcs marks done) (arc_line row) ≡ told nodes arcs marks (done ++ row ∷ [])
unfolding and_parsed
arc_parsed nodes arcs marks done row few lawful fits =
    let line = arc_is_line row fits in
    let high : pos 0 ≤ℤ row.cap = omega (arith, ints, lawful.low, lawful.cap) in
    let small_low : unsigned_abs row.low < 10 ^ 18 = omega (arith, ints, lawful.low, lawful.cap, lawful.limit) in
    let small_cap : unsigned_abs row.cap < 10 ^ 18 = omega (arith, ints, lawful.limit) in
    let small_cost : unsigned_abs row.cost < 10 ^ 18 = omega (arith, ints, lawful.cost.0, lawful.cost.1) in
    rw (
      line.words_are,
      signed_natural row.low lawful.low,
      signed_natural row.cap high,
      number_read row.tail (omega (arith, lawful.tail.1)),
      number_read row.head (omega (arith, lawful.head.1)),
      number_read (unsigned_abs row.low) small_low,
      number_read (unsigned_abs row.cap) small_cap,
      integer_read row.cost small_cost,
    ) (and_row (not_negative row.low lawful.low) (not_negative row.cap high) (append-nil marks))
  where
    and_row : {low cap : ℤ} {ms : List NodeMark} → low ≡ row.low → cap ≡ row.cap → ms ≡ marks
        → told nodes arcs ms (done ++ record { tail = row.tail; head = row.head; low = low; cap = cap; cost = row.cost } ∷ []) ≡ told nodes arcs marks (done ++ row ∷ [])
    and_row low_is cap_is marks_are = rw (low_is, cap_is, marks_are) refl

-- ---- lists with one entry a place

abbrev upto : {X : Type 0} → (ℕ → X) → ℕ → List X
upto f n = map f (range_with_len 0 n)

upto-suc : {X : Type 0} (f : ℕ → X) (n : ℕ) → upto f (suc n) ≡ upto f n ++ f n ∷ []
upto-suc f n = ap (λ (k : ℕ). upto f k) (sym (add-one n)) ∙ map-range_with_len_more f 0 n n (omega arith)

upto-split : {X : Type 0} (f : ℕ → X) (n place : ℕ) → place < n → upto f n ≡ upto f place ++ f place ∷ drop (suc place) (upto f n)
upto-split f n place within =
    let all = length-map-range_with_len f 0 n in
    split_at (upto f n) place (f place) (omega arith)
    ∙ rw (take-map-range_with_len f 0 n place (omega arith), get_or-map-range_with_len f 0 n place place (f place) within (omega arith)) refl

upto-plain : (f : ℕ → Line) (n : ℕ) → ((i : ℕ) → i < n → plain (f i) ≡ true) → AllPlain (upto f n)
upto-plain f zero each = tt
upto-plain f (suc n) each =
    subst (λ (ls : List Line). AllPlain ls) (sym (upto-suc f n)) (AllPlain-append (upto f n) (f n ∷ []) (upto-plain f n (λ i h. each i (omega arith))) (each n (omega arith), tt))

ended_joined : (ls : List Line) → flat_map (λ line. line ++ codes "\n") ls ≡ joined ls
ended_joined [] = refl
ended_joined (l ∷ ls) = rw (ended_joined ls) (append_assoc l (10 ∷ []) (joined ls))

not_below : (n : ℕ) → nat_lt n n ≡ false
not_below n = grind (arith, nat_tests)

same_number : (a b : ℕ) → a ≡ b → (a == b) ≡ true
same_number a b e = grind (arith, nat_tests)

no_fault : (r : Result (Unit {0}) ProblemFault) (found : Option ℕ) → found ≡ fault_of r → r ≡ Ok tt → found ≡ None
no_fault r found is passes = is ∙ ap fault_of passes

the_fault : (r : Result (Unit {0}) ProblemFault) (found : Option ℕ) (number : ℕ) → found ≡ fault_of r → FailsBy r number → found ≡ Some number
the_fault (Ok x) found number is fails = absurd fails
the_fault (Err f) found number is fails = is ∙ ap (λ (n : ℕ). Some n) (sym fails)

-- ---- the text

module _ (a : Arrays) (even : IsEven a) (fit : FitTheirTypes a) where
  abbrev nodes : ℕ
  nodes = length a.supply.now

  abbrev arcs : ℕ
  arcs = length a.tail.now

  abbrev marks_upto : ℕ → List NodeMark
  marks_upto n = upto (mark_at a.supply.now) n

  abbrev rows_upto : ℕ → List ArcRow
  rows_upto n = upto (array_row a) n

  abbrev node_lines_upto : ℕ → List Line
  node_lines_upto n = upto (node_line_at a.supply.now) n

  abbrev arc_lines_upto : ℕ → List Line
  arc_lines_upto n = upto (arc_line_at a) n

  abbrev supply_in : ℕ → ℤ
  supply_in place = slice_index_or a.supply.now place (pos 0)

  row_fits : (place : ℕ) → place < arcs → FitsItsTypes (array_row a place)
  row_fits place within = record {
    tail = fit.tails place 0 within;
    head = fit.heads place 0 (omega (arith, even.heads));
    low = fit.lows place (pos 0) (omega (arith, even.lows));
    cap = fit.caps place (pos 0) (omega (arith, even.caps));
    cost = fit.costs place (pos 0) (omega (arith, even.costs));
  }

  node_line_is : (place : ℕ) → place < nodes → IsLine (node_line_at a.supply.now place) (codes "n" ∷ decimal (place + 1) ∷ signed_decimal (supply_in place) ∷ [])
  node_line_is place within = node_is_line (place + 1) (supply_in place) (omega (arith, fit.nodes)) (fit.supplies place (pos 0) within)

  abbrev all_lines : List Line
  all_lines = size_line nodes arcs ∷ (node_lines a.supply.now ++ arc_lines a)

  all_plain : AllPlain all_lines
  all_plain = (
    (size_is_line nodes arcs fit.nodes fit.arcs).plain,
    AllPlain-append (node_lines a.supply.now) (arc_lines a)
        (upto-plain (node_line_at a.supply.now) nodes (λ i h. (node_line_is i h).plain))
        (upto-plain (arc_line_at a) arcs (λ i h. (arc_is_line (array_row a i) (row_fits i h)).plain)),
  )

  text_lines : lines_of (array_text a) ≡ all_lines
  text_lines = ap lines_of (ended_joined all_lines) ∙ lines_joined all_lines all_plain

  -- lines without a fault

  module _ (counts : test_counts nodes arcs ≡ Ok tt) where
    within_limits : (1 ≤ nodes) × (nodes ≤ NODE_LIMIT) × (arcs ≤ ARC_LIMIT)
    within_limits = counts_within nodes arcs counts

    size_reads : Reads nothing_told (size_line nodes arcs ∷ []) (told nodes arcs [] [])
    size_reads = (
      told nodes arcs [] [],
      (size_is_line nodes arcs fit.nodes fit.arcs).short,
      no_fault (in_line (test_counts nodes arcs)) _ (size_fault nodes arcs fit.nodes fit.arcs) (rw counts refl),
      size_parsed nodes arcs within_limits.1 within_limits.2,
      refl,
    )

    fresh : (place : ℕ) → is_named (place + 1) (marks_upto place) ≡ false
    fresh place = list_any_none (λ m. node_of m == place + 1) (marks_upto place) (λ i d h.
        let below : i < place = omega (arith, length-map-range_with_len (mark_at a.supply.now) 0 place) in
        rw (get_or-map-range_with_len (mark_at a.supply.now) 0 place i i d below (omega arith)) (ne_eqb (i + 1) (place + 1) (omega arith)))

    node_fault_at : (place : ℕ) → place < nodes → line_fault (told nodes arcs (marks_upto place) []) (node_line_at a.supply.now place) ≡ fault_of (in_line (test_integer SUPPLY_LIMIT (supply_in place)))
    node_fault_at place within =
        node_fault nodes arcs (marks_upto place) (place + 1) (supply_in place) (omega arith) (omega arith) within_limits.1 (fit.supplies place (pos 0) within) (fresh place)

    nodes_read : (n : ℕ) → n ≤ nodes → ((i : ℕ) → i < n → test_integer SUPPLY_LIMIT (supply_in i) ≡ Ok tt) → Reads (told nodes arcs [] []) (node_lines_upto n) (told nodes arcs (marks_upto n) [])
    nodes_read zero most pass = refl
    nodes_read (suc n) most pass =
        let before = nodes_read n (omega arith) (λ i h. pass i (omega arith)) in
        let passes = pass n (omega arith) in
        let here : Reads (told nodes arcs (marks_upto n) []) (node_line_at a.supply.now n ∷ []) (told nodes arcs (marks_upto n ++ mark_at a.supply.now n ∷ []) []) = (
          told nodes arcs (marks_upto n ++ mark_at a.supply.now n ∷ []) [],
          (node_line_is n (omega arith)).short,
          no_fault (in_line (test_integer SUPPLY_LIMIT (supply_in n))) _ (node_fault_at n (omega arith)) (rw passes refl),
          node_parsed nodes arcs (marks_upto n) (n + 1) (supply_in n) (omega (arith, within_limits.1)) passes,
          refl,
        ) in
        Reads-along (told nodes arcs [] []) (upto-suc (node_line_at a.supply.now) n) (ap (λ (ms : List NodeMark). told nodes arcs ms []) (upto-suc (mark_at a.supply.now) n))
        (Reads-append (node_lines_upto n) (node_line_at a.supply.now n ∷ []) (told nodes arcs [] []) (told nodes arcs (marks_upto n) []) (told nodes arcs (marks_upto n ++ mark_at a.supply.now n ∷ []) []) before here)

    arc_fault_at : (marks : List NodeMark) (place : ℕ) → place < arcs → line_fault (told nodes arcs marks (rows_upto place)) (arc_line_at a place) ≡ fault_of (test_row nodes (array_row a place))
    arc_fault_at marks place within =
        arc_fault nodes arcs marks (rows_upto place) (array_row a place) (omega (arith, length-map-range_with_len (array_row a) 0 place)) (row_fits place within)

    arcs_read : (marks : List NodeMark) (n : ℕ) → n ≤ arcs → ((i : ℕ) → i < n → test_row nodes (array_row a i) ≡ Ok tt) → Reads (told nodes arcs marks []) (arc_lines_upto n) (told nodes arcs marks (rows_upto n))
    arcs_read marks zero most pass = refl
    arcs_read marks (suc n) most pass =
        let before = arcs_read marks n (omega arith) (λ i h. pass i (omega arith)) in
        let passes = pass n (omega arith) in
        let fits = row_fits n (omega arith) in
        let here : Reads (told nodes arcs marks (rows_upto n)) (arc_line_at a n ∷ []) (told nodes arcs marks (rows_upto n ++ array_row a n ∷ [])) = (
          told nodes arcs marks (rows_upto n ++ array_row a n ∷ []),
          (arc_is_line (array_row a n) fits).short,
          no_fault (test_row nodes (array_row a n)) _ (arc_fault_at marks n (omega arith)) passes,
          arc_parsed nodes arcs marks (rows_upto n) (array_row a n) within_limits.1 (row_lawful nodes (array_row a n) passes) fits,
          refl,
        ) in
        Reads-along (told nodes arcs marks []) (upto-suc (arc_line_at a) n) (ap (λ (rs : List ArcRow). told nodes arcs marks rs) (upto-suc (array_row a) n))
        (Reads-append (arc_lines_upto n) (arc_line_at a n ∷ []) (told nodes arcs marks []) (told nodes arcs marks (rows_upto n)) (told nodes arcs marks (rows_upto n ++ array_row a n ∷ [])) before here)

    size_and_nodes : (n : ℕ) → n ≤ nodes → ((i : ℕ) → i < n → test_integer SUPPLY_LIMIT (supply_in i) ≡ Ok tt) → Reads nothing_told (size_line nodes arcs ∷ node_lines_upto n) (told nodes arcs (marks_upto n) [])
    size_and_nodes n most pass =
        Reads-append (size_line nodes arcs ∷ []) (node_lines_upto n) nothing_told (told nodes arcs [] []) (told nodes arcs (marks_upto n) []) size_reads (nodes_read n most pass)

    and_arcs : ((i : ℕ) → i < nodes → test_integer SUPPLY_LIMIT (supply_in i) ≡ Ok tt) → (n : ℕ) → n ≤ arcs → ((i : ℕ) → i < n → test_row nodes (array_row a i) ≡ Ok tt)
        → Reads nothing_told (size_line nodes arcs ∷ (node_lines a.supply.now ++ arc_lines_upto n)) (told nodes arcs (marks_upto nodes) (rows_upto n))
    and_arcs pass n most passes =
        Reads-append (size_line nodes arcs ∷ node_lines a.supply.now) (arc_lines_upto n) nothing_told (told nodes arcs (marks_upto nodes) []) (told nodes arcs (marks_upto nodes) (rows_upto n))
        (size_and_nodes nodes (omega arith) pass) (arcs_read (marks_upto nodes) n most passes)

  pub text_read : AreFaultless a → reads (array_text a) ≡ Ok (problem_of a)
  text_read without =
      let all = and_arcs without.counts without.supplies arcs (omega arith) without.arcs in
      let end = told nodes arcs (marks_upto nodes) (rows_upto arcs) in
      let none = faultless [] all_lines nothing_told end (sym parsed_of_nothing) all in
      let parsed = parsed_at_end [] all_lines nothing_told end (sym parsed_of_nothing) all in
      reads_ok (array_text a) end (problem_of a) (ap (λ (ls : List Line). first_fault problem_rule [] ls) text_lines ∙ none)
      (sym (ap (λ (ls : List Line). parsed_of ls) text_lines ∙ parsed)) (rw (length-map-range_with_len (array_row a) 0 arcs, not_below arcs) refl)

  -- the first line with a fault

  counted_is : (n : ℕ) → n < 2 ^ 64 → counted n ≡ n
  counted_is n small = omega arith

  fault_read : (ls : List Line) (l : Line) (rest : List Line) (s : Parsed) (number at : ℕ) → all_lines ≡ ls ++ l ∷ rest → Reads nothing_told ls s → is_too_long l ≡ false
      → line_fault s l ≡ Some number → length ls + 1 ≡ at → at < 2 ^ 64 → reads (array_text a) ≡ Err (text_fault.Fault number at)
  unfolding reads
  fault_read ls l rest s number at split r short found count small =
      let first = faulty [] ls l rest nothing_told s number at (sym parsed_of_nothing) r short found (omega arith) in
      rw (text_lines, split, first, counted_is at small) refl

  count_fault_read : (f : ArrayFault) → IsCountFault a f → reads (array_text a) ≡ Err (text_fault.Fault f.number (fault_line a f))
  count_fault_read f is =
      let line : 1 ≡ fault_line a f = rw (same_number f.arc 0 is.arc) (omega (arith, is.node)) in
      fault_read [] (size_line nodes arcs) (node_lines a.supply.now ++ arc_lines a) nothing_told f.number (fault_line a f) refl refl
      (size_is_line nodes arcs fit.nodes fit.arcs).short (the_fault (in_line (test_counts nodes arcs)) _ f.number (size_fault nodes arcs fit.nodes fit.arcs) is.number)
      line (omega arith)

  node_fault_read : (f : ArrayFault) → test_counts nodes arcs ≡ Ok tt → IsNodeFault a.supply.now f → reads (array_text a) ≡ Err (text_fault.Fault f.number (fault_line a f))
  node_fault_read f counts is =
      let place = is.place in
      let limits = within_limits counts in
      let lines = length-map-range_with_len (node_line_at a.supply.now) 0 place in
      let line : length (size_line nodes arcs ∷ node_lines_upto place) + 1 ≡ fault_line a f = rw (same_number f.arc 0 is.arc) (omega (arith, is.node, lines)) in
      let within = is.within in
      let small : fault_line a f < 2 ^ 64 = omega (arith, line, lines, within, limits.1) in
      let rest = drop (suc place) (node_lines a.supply.now) in
      let split : all_lines ≡ (size_line nodes arcs ∷ node_lines_upto place) ++ node_line_at a.supply.now place ∷ (rest ++ arc_lines a) =
      ap (λ (ls : List Line). size_line nodes arcs ∷ (ls ++ arc_lines a)) (upto-split (node_line_at a.supply.now) nodes place within)
      ∙ ap (λ (ls : List Line). size_line nodes arcs ∷ ls) (append_assoc (node_lines_upto place) (node_line_at a.supply.now place ∷ rest) (arc_lines a)) in
      fault_read (size_line nodes arcs ∷ node_lines_upto place) (node_line_at a.supply.now place) (rest ++ arc_lines a) (told nodes arcs (marks_upto place) []) f.number (fault_line a f) split
      (size_and_nodes counts place (omega arith) is.before) (node_line_is place within).short
      (the_fault (in_line (test_integer SUPPLY_LIMIT (supply_in place))) _ f.number (node_fault_at counts place within) is.number) line small

  arc_fault_read : (f : ArrayFault) → test_counts nodes arcs ≡ Ok tt → AreSuppliesFaultless a.supply.now → IsArcFault a f → reads (array_text a) ≡ Err (text_fault.Fault f.number (fault_line a f))
  arc_fault_read f counts supplies is =
      let place = is.place in
      let limits = within_limits counts in
      let of_nodes = length-map-range_with_len (node_line_at a.supply.now) 0 nodes in
      let of_arcs = length-map-range_with_len (arc_line_at a) 0 place in
      let some : (f.arc == 0) ≡ false = ne_eqb f.arc 0 (omega (arith, is.arc)) in
      let line : length (size_line nodes arcs ∷ (node_lines a.supply.now ++ arc_lines_upto place)) + 1 ≡ fault_line a f =
      rw some (omega (arith, is.arc, of_nodes, of_arcs, length-append (node_lines a.supply.now) (arc_lines_upto place))) in
      let within = is.within in
      let small : fault_line a f < 2 ^ 64 = omega (arith, line, of_nodes, of_arcs, length-append (node_lines a.supply.now) (arc_lines_upto place), within, limits.1, limits.2) in
      let rest = drop (suc place) (arc_lines a) in
      let split : all_lines ≡ (size_line nodes arcs ∷ (node_lines a.supply.now ++ arc_lines_upto place)) ++ arc_line_at a place ∷ rest =
      ap (λ (ls : List Line). size_line nodes arcs ∷ (node_lines a.supply.now ++ ls)) (upto-split (arc_line_at a) arcs place within)
      ∙ ap (λ (ls : List Line). size_line nodes arcs ∷ ls) (sym (append_assoc (node_lines a.supply.now) (arc_lines_upto place) (arc_line_at a place ∷ rest))) in
      fault_read (size_line nodes arcs ∷ (node_lines a.supply.now ++ arc_lines_upto place)) (arc_line_at a place) rest (told nodes arcs (marks_upto nodes) (rows_upto place)) f.number (fault_line a f) split
      (and_arcs counts supplies place (omega arith) is.before) (arc_is_line (array_row a place) (row_fits place within)).short
      (the_fault (test_row nodes (array_row a place)) _ f.number (arc_fault_at counts (marks_upto nodes) place within) is.number) line small

  pub fault_text : (f : ArrayFault) → IsFirstFault a f → reads (array_text a) ≡ Err (text_fault.Fault f.number (fault_line a f))
  fault_text f is = elim is [
    | inl of_counts ↦ count_fault_read f of_counts
    | inr later ↦ elim later [
      | inl of_node ↦ node_fault_read f of_node.0 of_node.1
      | inr of_arc ↦ arc_fault_read f of_arc.0 of_arc.1 of_arc.2
    ]
  ]
