-- The lines of a text that says what arrays say: their words, and the fault of each by the test of its numbers.
use Rattle.std.proofs.Common.{◌≡◌, ℕ, suc, ◌+◌, ◌*◌, ◌<◌, ◌≤◌, ◌^◌, Bool, true, false, cond, ◌&&◌, List, [], ◌∷◌, ◌++◌, length, None, Some, Ok, Err, ℤ, pos, negsuc, neg_ℤ, int_le, nat_le, nat_lt, append-nil, length-append, refl, ◌∙◌, arith}
use Rattle.std.specs.Prelude.{unsigned_abs, codes}
use Rattle.std.specs.Fmt.{decimal, signed_decimal}
use Rattle.std.proofs.lemmas.Bool.Decides.{nat_tests}
use Rattle.std.proofs.lemmas.Int.{ints}
use Rattle.std.proofs.lemmas.List.Folds.{list_all-append}
use Rattle.dimacs_lines.specs.Checks.{◌>>=◌, demand, natural_in, integer_in}
use Rattle.dimacs_lines.specs.declared.fault.LineFault.TheVariants as fault
use Rattle.dimacs_lines.specs.declared.numbers.TheConstants.{DIGIT_LIMIT}
use Rattle.dimacs_lines.specs.Fields.{Word, digits_value, integer, is_blank, natural, words_of}
use Rattle.dimacs_lines.specs.Lines.{Line, is_too_long}
use Rattle.dimacs_lines.proofs.DigitLemmas.{digits_below}
use Rattle.dimacs_lines.proofs.NumberLemmas.{pow_within}
use Rattle.dimacs_lines.proofs.Written.{IsWritten, integer_read, integer_written, is_plain, last_word, letter_then, natural_written, no_sign, number_read, some_digit, spelt, word_then}
use Rattle.dimacs_lines.proofs.Cutting.{plain}
use Rattle.dimacs_text.specs.declared.problem.ArcRow.{ArcRow}
use Rattle.dimacs_text.specs.declared.problem.TheConstants.{CAP_LIMIT}
use Rattle.c_calls.specs.ArrayText.{arc_line, node_line, size_line, spaced}
use Rattle.c_calls.specs.Arrays.{test_bound, test_integer, test_natural}

-- ---- lines of words

abbrev AllWritten : List Word → Type 0
AllWritten [] = Unit {0}
AllWritten (w ∷ ws) = IsWritten w 20 × AllWritten ws

words_spaced : (w : Word) (ws : List Word) → IsWritten w 20 → AllWritten ws → words_of (w ++ spaced ws) ≡ w ∷ ws
words_spaced w [] k ks = rw (append-nil w) (last_word w k.some k.solid)
words_spaced w (v ∷ ws) k ks = word_then w (v ++ spaced ws) k.some k.solid ∙ rw (words_spaced v ws ks.0 ks.1) refl

spaced_plain : (ws : List Word) → AllWritten ws → plain (spaced ws) ≡ true
spaced_plain [] ks = refl
spaced_plain (w ∷ ws) ks = rw (list_all-append is_plain w (spaced ws), ks.0.plain, spaced_plain ws ks.1) refl

spaced_short : (ws : List Word) → AllWritten ws → length (spaced ws) ≤ 21 * length ws
spaced_short [] ks = omega arith
spaced_short (w ∷ ws) ks = omega (arith, length-append w (spaced ws), ks.0.short, spaced_short ws ks.1)

not_too_long : (l : Line) → length l ≤ 200 → is_too_long l ≡ false
not_too_long l h = grind (arith, nat_tests)

-- a line that has these words
pub record IsLine (l : Line) (words : List Word) : Type 0 where
  pub words_are : words_of l ≡ words
  pub plain : plain l ≡ true
  pub short : is_too_long l ≡ false

-- one of a letter and of words behind it
line_is : (letter : ℕ) (w : Word) (ws : List Word) → is_blank letter ≡ false → is_plain letter ≡ true → AllWritten (w ∷ ws) → length ws ≤ 4
    → IsLine (letter ∷ spaced (w ∷ ws)) ((letter ∷ []) ∷ w ∷ ws)
line_is letter w ws solid no_end ks few = record {
  words_are = letter_then letter (w ++ spaced ws) solid ∙ rw (words_spaced w ws ks.0 ks.1) refl;
  plain = rw (no_end, spaced_plain (w ∷ ws) ks) refl;
  short = not_too_long (letter ∷ spaced (w ∷ ws)) (omega (arith, spaced_short (w ∷ ws) ks));
}

written_natural : (n : ℕ) → n < 2 ^ 64 + 1 → IsWritten (decimal n) 20
written_natural n small = natural_written 20 n (omega arith) (omega arith) (omega arith)

written_integer : (z : ℤ) → unsigned_abs z ≤ 2 ^ 63 → IsWritten (signed_decimal z) 20
written_integer z small = integer_written 19 z (omega arith) (omega arith) (omega arith)

written_min : IsWritten (codes "min") 20
written_min = record { some = omega arith; short = omega arith; solid = refl; plain = refl }

pub size_is_line : (nodes arcs : ℕ) → nodes < 2 ^ 64 → arcs < 2 ^ 64 → IsLine (size_line nodes arcs) (codes "p" ∷ codes "min" ∷ decimal nodes ∷ decimal arcs ∷ [])
size_is_line nodes arcs few_nodes few_arcs =
    line_is 112 (codes "min") (decimal nodes ∷ decimal arcs ∷ []) refl refl
    (written_min, (written_natural nodes (omega arith), (written_natural arcs (omega arith), tt))) (omega arith)

pub node_is_line : (id : ℕ) (supply : ℤ) → id < 2 ^ 64 + 1 → unsigned_abs supply ≤ 2 ^ 63 → IsLine (node_line id supply) (codes "n" ∷ decimal id ∷ signed_decimal supply ∷ [])
node_is_line id supply few small =
    line_is 110 (decimal id) (signed_decimal supply ∷ []) refl refl (written_natural id few, (written_integer supply small, tt)) (omega arith)

-- an arc's numbers are such as their types hold
pub record FitsItsTypes (row : ArcRow) : Type 0 where
  pub tail : row.tail < 2 ^ 32
  pub head : row.head < 2 ^ 32
  pub low : unsigned_abs row.low ≤ 2 ^ 63
  pub cap : unsigned_abs row.cap ≤ 2 ^ 63
  pub cost : unsigned_abs row.cost ≤ 2 ^ 63

pub arc_is_line : (row : ArcRow) → FitsItsTypes row
    → IsLine (arc_line row) (codes "a" ∷ decimal row.tail ∷ decimal row.head ∷ signed_decimal row.low ∷ signed_decimal row.cap ∷ signed_decimal row.cost ∷ [])
arc_is_line row fits =
    line_is 97 (decimal row.tail) (decimal row.head ∷ signed_decimal row.low ∷ signed_decimal row.cap ∷ signed_decimal row.cost ∷ []) refl refl (
      written_natural row.tail (omega (arith, fits.tail)),
      (written_natural row.head (omega (arith, fits.head)), (written_integer row.low fits.low, (written_integer row.cap fits.cap, (written_integer row.cost fits.cost, tt)))),
    ) (omega arith)

-- ---- fields by the tests of their numbers

le_true : (a b : ℕ) → a ≤ b → nat_le a b ≡ true
le_true a b h = grind (arith, nat_tests)

le_is : (a b : ℕ) → nat_le a b ≡ true → a ≤ b
le_is a b e = grind (arith, nat_tests)

lt_is : (a b : ℕ) → nat_lt a b ≡ true → a < b
lt_is a b e = grind (arith, nat_tests)

lt_is_not : (a b : ℕ) → nat_lt a b ≡ false → b ≤ a
lt_is_not a b e = grind (arith, nat_tests)

-- a number of more than 18 digits is none
not_short : (n : ℕ) → 10 ^ 18 ≤ n → n < 10 ^ 64 → nat_le (length (decimal n)) DIGIT_LIMIT ≡ true → ⊥
not_short n large small e =
    let s = spelt n small in
    let few : length (decimal n) ≤ 18 = le_is (length (decimal n)) DIGIT_LIMIT e in
    let low : n < 10 ^ length (decimal n) = rw s.1 at (digits_below (decimal n) s.0) in
    let high = pow_within (length (decimal n)) 18 few in
    absurd (omega arith)

too_long : (n : ℕ) → 10 ^ 18 ≤ n → n < 10 ^ 64 → natural (decimal n) ≡ None
too_long n large small = by (nat_le (length (decimal n)) DIGIT_LIMIT) refl
  where
    by : (b : Bool) → nat_le (length (decimal n)) DIGIT_LIMIT ≡ b → natural (decimal n) ≡ None
    by true e = absurd (not_short n large small e)
    by false e = let some = le_true 1 (length (decimal n)) (omega (arith, some_digit n small)) in rw (some, e) refl

-- nor has a number without a sign one
signed_none : (ds : Word) → natural (45 ∷ ds) ≡ None
signed_none ds = by (nat_le 1 (length (45 ∷ ds)) && nat_le (length (45 ∷ ds)) DIGIT_LIMIT) (digits_value (45 ∷ ds))
  where
    by : (met : Bool) (n : ℕ) → cond (met && false) (Some n) None ≡ None
    by true n = refl
    by false n = refl

range_met : {A : Type 0} (met : Bool) (x : A) → cond met (Ok x) (Err fault.OutOfRange) ≡ (demand met fault.OutOfRange >>= λ _. Ok x)
range_met true x = refl
range_met false x = refl

pub natural_field : (low high n : ℕ) → n < 2 ^ 64 + 1 → natural_in low high (decimal n) ≡ (test_natural low high n >>= λ _. Ok n)
unfolding test_natural
natural_field low high n small = by (nat_lt n (10 ^ DIGIT_LIMIT)) refl
  where
    by : (b : Bool) → nat_lt n (10 ^ DIGIT_LIMIT) ≡ b → natural_in low high (decimal n) ≡ (test_natural low high n >>= λ _. Ok n)
    by true e = rw (number_read n (lt_is n (10 ^ DIGIT_LIMIT) e), e) (range_met (nat_le low n && nat_le n high) n)
    by false e = rw (too_long n (lt_is_not n (10 ^ DIGIT_LIMIT) e) (omega arith), e) refl

long_none : (z : ℤ) → 10 ^ 18 ≤ unsigned_abs z → unsigned_abs z ≤ 2 ^ 63 → integer (signed_decimal z) ≡ None
unfolding integer
long_none (pos n) large small =
    let s = no_sign (decimal n) (spelt n (omega arith)).0 in rw (s.0, s.1, too_long n large (omega arith)) refl
long_none (negsuc n) large small = rw (too_long (suc n) large (omega arith)) refl

pub integer_field : (limit z : ℤ) → unsigned_abs z ≤ 2 ^ 63 → integer_in limit (signed_decimal z) ≡ (test_integer limit z >>= λ _. Ok z)
unfolding test_integer
integer_field limit z small = by (nat_lt (unsigned_abs z) (10 ^ DIGIT_LIMIT)) refl
  where
    by : (b : Bool) → nat_lt (unsigned_abs z) (10 ^ DIGIT_LIMIT) ≡ b → integer_in limit (signed_decimal z) ≡ (test_integer limit z >>= λ _. Ok z)
    by true e = rw (integer_read z (lt_is (unsigned_abs z) (10 ^ DIGIT_LIMIT) e), e) (range_met (int_le (neg_ℤ limit) z && int_le z limit) z)
    by false e = rw (long_none z (lt_is_not (unsigned_abs z) (10 ^ DIGIT_LIMIT) e) small, e) refl

pos_above : (n : ℕ) → int_le (pos 0) (pos n) ≡ true
pos_above n = grind (arith, ints)

pub bound_field : (z : ℤ) → unsigned_abs z ≤ 2 ^ 63 → natural_in 0 CAP_LIMIT (signed_decimal z) ≡ (test_bound z >>= λ _. Ok (unsigned_abs z))
unfolding test_bound
bound_field (pos n) small = rw (natural_field 0 CAP_LIMIT n (omega arith), pos_above n) refl
bound_field (negsuc n) small = rw (signed_none (decimal (suc n))) refl
