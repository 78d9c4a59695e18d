-- The digits that a line begins with, and the word that begins with them.
use Rattle.std.proofs.Common.{◌≡◌, ℕ, suc, zero, ◌+◌, ◌-◌, ◌*◌, ◌%◌, ◌^◌, ◌<◌, ◌≤◌, Bool, true, false, ltb, min, ◌&&◌, ◌==◌, cond, Option, Some, None, [], ◌∷◌, ◌++◌, length, take, drop, get_or, nat_le, IfSome, pos, refl, sym, ap, ◌∙◌, arith}
use Rattle.std.proofs.Math.Nat.{pow-succ'}
use Rattle.std.proofs.lemmas.Nat.{mul-le}
use Rattle.std.specs.Option.{option_map}
use Rattle.std.proofs.lemmas.Bool.{eqb-true, ltb-true, ltb-false}
use Rattle.std.proofs.lemmas.Bool.Decides.{nat_tests}
use Rattle.std.proofs.lemmas.List.{get_or-take, get_or-drop, drop-drop, drop_more, length-take, length-drop, take-append-le, take-append-drop}
use Rattle.std.proofs.lemmas.List.Sums.{passes_at_first, fold-append}
use Rattle.std.proofs.lemmas.List.Folds.{list_all-append}
use Rattle.std.specs.List.{list_all, position_or_len}
use Rattle.dimacs_lines.specs.declared.numbers.TheConstants.{DIGIT_LIMIT}
use Rattle.dimacs_lines.specs.Lines.{Line}
use Rattle.dimacs_lines.specs.Fields.{Word, is_blank, is_digit, digits_value, natural, integer, with_sign, words_of}
use Rattle.dimacs_lines.specs.Digits.{FrontDigits}
use Rattle.dimacs_lines.proofs.WordLemmas.{is_solid, first_word}
use Rattle.dimacs_lines.proofs.NumberLemmas.{digits_after, pow_within, spelt}

digit_bounds : (byte : ℕ) → is_digit byte ≡ true → (48 ≤ byte) × (byte ≤ 57)
digit_bounds byte e = grind (arith, nat_tests)

digit_is_solid : (byte : ℕ) → is_digit byte ≡ true → is_blank byte ≡ false
digit_is_solid byte e = let b = digit_bounds byte e in grind (arith, nat_tests)

both_true : (a b : Bool) → (a && b) ≡ true → (a ≡ true) × (b ≡ true)
both_true true b e = (refl, e)
both_true false b e = absurd cc

pub digits_below : (word : Word) → list_all is_digit word ≡ true → digits_value word < 10 ^ length word
digits_below [] e = omega arith
digits_below (digit ∷ word) e =
    let both = both_true (is_digit digit) (list_all is_digit word) e in
    let bounds = digit_bounds digit both.0 in
    let first = 10 * 0 + (digit - 48) in
    let unit = 10 ^ length word in
    let later : digits_value word < unit = digits_below word both.1 in
    let high : first * unit ≤ 9 * unit = mul-le first unit 9 unit (omega arith) (omega arith) in
    let value : digits_value (digit ∷ word) ≡ first * unit + digits_value word = digits_after first word in
    rw (pow-succ' 10 (length word)) (omega arith)

-- a byte less that of `0`, which wraps below it, is at most 9 for digits alone
pub wrapped_digit : (byte digit : ℕ) → byte < 256 → digit ≡ (byte + (2 ^ 64 - 48)) % 2 ^ 64 → digit ≤ 9 → (48 ≤ byte) × (byte ≤ 57) × (digit ≡ byte - 48)
wrapped_digit byte digit fits is low = (omega arith, omega arith, omega arith)

-- one digit more at the end
pub digit_more : (front : Word) (value byte : ℕ) → value ≡ digits_value front → value * 10 + (byte - 48) ≡ digits_value (front ++ byte ∷ [])
digit_more front value byte e = rw (fold-append (λ value digit. 10 * value + (digit - 48)) 0 front (byte ∷ []), ← e) (omega arith)

pub digits_more : (front : Word) (byte : ℕ) → list_all is_digit front ≡ true → is_digit byte ≡ true → list_all is_digit (front ++ byte ∷ []) ≡ true
digits_more front byte are is = rw (list_all-append is_digit front (byte ∷ []), are, is) refl

within_by : (some fits digits : Bool) (n value : ℕ) → Some n ≡ cond (some && fits && digits) (Some value) None → fits ≡ true
within_by true true digits n value e = refl
within_by true false digits n value e = cc
within_by false fits digits n value e = cc

spelt_within : (word : Word) (n : ℕ) → Some n ≡ natural word → length word ≤ DIGIT_LIMIT
spelt_within word n e =
    let within = within_by (nat_le 1 (length word)) (nat_le (length word) DIGIT_LIMIT) (list_all is_digit word) n (digits_value word) e in
    grind (arith, nat_tests)

below_by : (word : Word) (found : Option ℕ) → found ≡ natural word → IfSome found (λ value. value < 10 ^ DIGIT_LIMIT)
below_by word None e = tt
below_by word (Some n) e =
    let s = spelt DIGIT_LIMIT word n e in
    let low : digits_value word < 10 ^ length word = digits_below word s.0 in
    let high : 10 ^ length word ≤ 10 ^ DIGIT_LIMIT = pow_within (length word) DIGIT_LIMIT (spelt_within word n e) in
    rw s.1 (omega arith)

pub natural_below : (word : Word) → IfSome (natural word) (λ value. value < 10 ^ DIGIT_LIMIT)
natural_below word = below_by word (natural word) refl

blank_by : (blank : Bool) (byte : ℕ) (line : Line) (digits : ℕ) → is_blank byte ≡ blank → blank ≡ false
    → position_or_len is_blank line ≡ digits + position_or_len is_blank (drop digits line)
    → position_or_len is_blank (byte ∷ line) ≡ suc digits + position_or_len is_blank (drop digits line)
blank_by true byte line digits is solid later = absurd cc
blank_by false byte line digits is solid later = rw is (omega (arith, later))

-- digits are in one word: the first blank stands after them
pub blank_after : (digits : ℕ) (line : Line) → digits ≤ length line → list_all is_digit (take digits line) ≡ true
    → position_or_len is_blank line ≡ digits + position_or_len is_blank (drop digits line)
blank_after zero line within e = omega arith
blank_after (suc digits) [] within e = absurd (omega arith)
blank_after (suc digits) (byte ∷ line) within e =
    let both = both_true (is_digit byte) (list_all is_digit (take digits line)) e in
    blank_by (is_blank byte) byte line digits refl (digit_is_solid byte both.0) (blank_after digits line (omega arith) both.1)

take_shorter : (digits len : ℕ) (line : Line) → digits ≤ len → len ≤ length line → take digits (take len line) ≡ take digits line
take_shorter digits len line le within =
    let h : digits ≤ length (take len line) = omega (arith, length-take len line) in
    sym (take-append-le digits (take len line) (drop len line) h) ∙ ap (take digits) (take-append-drop len line)

ends_in : (digits len : ℕ) (line : Line) → digits < len → len ≤ length line → (digits < length line → is_digit (get_or line digits 0) ≡ false) → is_digit (get_or (take len line) digits 0) ≡ false
ends_in digits len line lt within ends = rw (get_or-take len line digits 0 lt) (ends (omega arith))

-- a word of the line that has all these digits begins with them
pub word_begins : (value digits len : ℕ) (line : Line) → FrontDigits value digits line → digits ≤ len → len ≤ length line → FrontDigits value digits (take len line)
word_begins value digits len line front le within = record {
  value_is = λ few. rw (take_shorter digits len line le within) (front.value_is few);
  are_digits = rw (take_shorter digits len line le within) front.are_digits;
  within = omega (arith, length-take len line);
  ends = λ more. ends_in digits len line (omega (arith, length-take len line)) within front.ends;
}

pub front_below : (value digits : ℕ) (line : Line) → FrontDigits value digits line → digits ≤ DIGIT_LIMIT → value < 10 ^ DIGIT_LIMIT
front_below value digits line front fits =
    let low : digits_value (take digits line) < 10 ^ length (take digits line) = digits_below (take digits line) front.are_digits in
    let high : 10 ^ length (take digits line) ≤ 10 ^ DIGIT_LIMIT = pow_within (length (take digits line)) DIGIT_LIMIT (omega (arith, length-take digits line)) in
    rw (front.value_is fits) (omega arith)

not_negative_by : (minus : Bool) (byte : ℕ) (word : Word) (value : ℕ) → (byte == 45) ≡ minus → natural (byte ∷ word) ≡ Some value → integer (byte ∷ word) ≡ Some (pos value)
unfolding integer
not_negative_by true byte word value is e =
    let digits = spelt DIGIT_LIMIT (byte ∷ word) value (sym e) in
    let bounds = digit_bounds byte (both_true (is_digit byte) (list_all is_digit word) digits.0).0 in
    let minus : byte ≡ 45 = eqb-true byte 45 is in
    absurd (omega arith)
not_negative_by false byte word value is e = rw is (ap (option_map (with_sign false)) e)

-- a number without a sign is one with a sign too
pub not_negative : (word : Word) (value : ℕ) → natural word ≡ Some value → integer word ≡ Some (pos value)
not_negative [] value e = absurd cc
not_negative (byte ∷ word) value e = not_negative_by (byte == 45) byte word value refl e

-- a word that is cut from a line: where it begins, where the digits at its front end, and where it ends
pub record CutWord (line : Line) (begin value digits_end end : ℕ) : Type 0 where
  pub some : 0 < length (take (end - begin) (drop begin line))
  pub front : FrontDigits value (digits_end - begin) (take (end - begin) (drop begin line))
  pub words_are : words_of line ≡ take (end - begin) (drop begin line) ∷ words_of (drop end line)

pub cut_word : (line : Line) (begin value digits_end end : ℕ) → begin ≡ 0 + position_or_len is_solid (drop 0 line) → begin < length line → begin ≤ digits_end → FrontDigits value (digits_end - begin) (drop begin line)
    → end ≡ digits_end + position_or_len is_blank (drop digits_end line) → end ≤ length line → CutWord line begin value digits_end end
cut_word line begin value digits_end end begin_is lt le front end_is within =
    let begun = drop begin line in let digits = digits_end - begin in
    let back : begin + digits ≡ digits_end = omega arith in
    let after : drop digits begun ≡ drop digits_end line = drop-drop digits begin line ∙ ap (λ (n : ℕ). drop n line) back in
    let blank_is : position_or_len is_blank begun ≡ digits + position_or_len is_blank (drop digits_end line) = rw (← after) (blank_after digits begun front.within front.are_digits) in
    let some : 0 < length begun = omega (arith, length-drop begin line) in
    let place : begin ≡ position_or_len is_solid line = omega (arith, begin_is) in
    let first = first_word line begin (end - begin) place some (omega arith) in
    let fits : end - begin ≤ length begun = omega (arith, length-drop begin line) in
    let ends : drop (end - begin) begun ≡ drop end line = drop-drop (end - begin) begin line ∙ ap (λ (n : ℕ). drop n line) (omega arith) in
    record {
      some = omega (arith, length-take (end - begin) begun, first.1);
      front = word_begins value digits (end - begin) begun front (omega arith) fits;
      words_are = first.0 ∙ ap (λ (r : Line). take (end - begin) begun ∷ words_of r) ends;
    }

pub blank_skipped : (byte : ℕ) (line : Line) → is_blank byte ≡ true → words_of (byte ∷ line) ≡ words_of line
unfolding words_of
blank_skipped byte line e = rw e refl

words_after_by : (more : Bool) (line : Line) (from end next : ℕ) → ltb end (length line) ≡ more → end ≡ from + position_or_len is_blank (drop from line) → end ≤ length line → next ≡ min (end + 1) (length line)
    → words_of (drop end line) ≡ words_of (drop next line)
words_after_by true line from end next is end_is within next_is =
    let lt : end < length line = ltb-true _ _ is in
    let after : next ≡ end + 1 = omega arith in
    let place = position_or_len is_blank (drop from line) in
    let found : is_blank (get_or (drop from line) place 0) ≡ true = passes_at_first is_blank (drop from line) 0 (omega (arith, length-drop from line)) in
    let blank : is_blank (get_or line end 0) ≡ true = rw (end_is, ← get_or-drop from line place 0) found in
    rw (drop_more line end 0 lt, after) (blank_skipped (get_or line end 0) (drop (end + 1) line) blank)
words_after_by false line from end next is end_is within next_is =
    let le : length line ≤ end = ltb-false _ _ is in
    let same : next ≡ end = omega arith in
    rw same refl

-- the blank that ends a word is in none
pub words_after : (line : Line) (from end next : ℕ) → end ≡ from + position_or_len is_blank (drop from line) → end ≤ length line → next ≡ min (end + 1) (length line) → words_of (drop end line) ≡ words_of (drop next line)
words_after line from end next end_is within next_is = words_after_by (ltb end (length line)) line from end next refl end_is within next_is
