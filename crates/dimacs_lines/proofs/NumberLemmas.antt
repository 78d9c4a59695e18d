-- Numbers of at most 18 digits, and longer ones in two parts.
use Rattle.std.proofs.Common.{◌≡◌, ℕ, ◌+◌, ◌-◌, ◌*◌, ◌^◌, ◌≤◌, Bool, true, false, ◌&&◌, cond, Some, None, [], ◌∷◌, ◌++◌, length, length-append, nat_le, refl, sym, ap, ◌∙◌, arith}
use Rattle.std.proofs.Math.Nat.{pow-le-pow_right, pow-succ', add-mul, mul_assoc, mul_left_comm}
use Rattle.std.proofs.lemmas.Bool.Decides.{nat_tests}
use Rattle.std.proofs.lemmas.List.Folds.{list_all-append}
use Rattle.std.proofs.lemmas.List.Sums.{fold-append}
use Rattle.std.specs.List.{fold, list_all}
use Rattle.dimacs_lines.specs.declared.numbers.TheConstants.{DIGIT_LIMIT, VALUE_DIGIT_LIMIT}
use Rattle.dimacs_lines.specs.Fields.{Word, is_digit, digits_value, natural, natural_within}

pub pow_within : (digits limit : ℕ) → digits ≤ limit → 10 ^ digits ≤ 10 ^ limit
pow_within digits limit h = pow-le-pow_right {n = 10} (omega arith) h

with_digit : (n digit first unit value : ℕ) → first ≡ digit → (10 * n + digit) * unit + value ≡ n * (10 * unit) + (first * unit + value)
with_digit n digit first unit value e = rw (e, add-mul (10 * n) digit unit, mul_assoc 10 n unit, mul_left_comm n 10 unit) (omega arith)

-- digits after a number: it counts in the power of ten that they have
pub digits_after : (n : ℕ) (word : Word) → fold (λ value digit. 10 * value + (digit - 48)) n word ≡ n * 10 ^ length word + digits_value word
digits_after n [] = omega arith
digits_after n (digit ∷ word) =
    let unit = 10 ^ length word in
    let first = 10 * 0 + (digit - 48) in
    digits_after (10 * n + (digit - 48)) word
    ∙ with_digit n (digit - 48) first unit (digits_value word) (omega arith)
    ∙ rw (pow-succ' 10 (length word)) (ap (λ value. n * (10 * unit) + value) (sym (digits_after first word)))

pub digits_value-append : (front back : Word) → digits_value (front ++ back) ≡ digits_value front * 10 ^ length back + digits_value back
digits_value-append front back = fold-append _ 0 front back ∙ digits_after (digits_value front) back

-- where the length is right, only the bytes are left to be tested
pub digits_are : (limit : ℕ) (word : Word) → 1 ≤ length word → length word ≤ limit
    → natural_within limit word ≡ cond (list_all is_digit word) (Some (digits_value word)) None
digits_are limit word some fits = grind (arith, nat_tests)

spelt_by : (some fits digits : Bool) (n value : ℕ) → Some n ≡ cond (some && fits && digits) (Some value) None → (digits ≡ true) × (n ≡ value)
spelt_by true true true n value e = (refl, cc)
spelt_by true true false n value e = cc
spelt_by true false digits n value e = cc
spelt_by false fits digits n value e = cc

pub spelt : (limit : ℕ) (word : Word) (n : ℕ) → Some n ≡ natural_within limit word → (list_all is_digit word ≡ true) × (n ≡ digits_value word)
spelt limit word n e = spelt_by (nat_le 1 (length word)) (nat_le (length word) limit) (list_all is_digit word) n (digits_value word) e

-- a number of more than 18 digits, by its parts
pub joined_value : (word front back : Word) (high low : ℕ) → word ≡ front ++ back → length back ≡ DIGIT_LIMIT → length word ≤ VALUE_DIGIT_LIMIT
    → Some high ≡ natural front → Some low ≡ natural back → Some (high * 10 ^ DIGIT_LIMIT + low) ≡ natural_within VALUE_DIGIT_LIMIT word
joined_value word front back high low is len fits front_is back_is =
    let h = spelt DIGIT_LIMIT front high front_is in
    let l = spelt DIGIT_LIMIT back low back_is in
    let lengths : length word ≡ length front + length back = rw (is, length-append front back) refl in
    sym (digits_are VALUE_DIGIT_LIMIT word (omega arith) fits
    ∙ rw (is, list_all-append is_digit front back, h.0, l.0, digits_value-append front back, len, h.1, l.1) refl)
