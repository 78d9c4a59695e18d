-- No check of a line that fits says that it is too long.
use Rattle.std.proofs.Common.{◌≢◌, ℕ, Bool, true, false, cond, if◌then◌else◌, ◌&&◌, List, length, Option, Some, None, Result, Ok, Err, ℤ, neg_ℤ, arith}
use Rattle.std.specs.Prelude.{int_le, nat_le, ◌==◌}
use Rattle.dimacs_lines.specs.declared.fault.LineFault.TheVariants as of_line
use Rattle.dimacs_lines.specs.Fault.{number_of as number_in_line}
use Rattle.dimacs_lines.specs.Fields.{Word, natural, integer}
use Rattle.dimacs_lines.specs.Checks.{◌>>=◌, demand, some_or, has_fields, number_in, natural_in, integer_in}

abbrev pub IsOther : {A F : Type 0} → (F → ℕ) → Result A F → Type 0
IsOther number (Ok x) = Unit {0}
IsOther number (Err f) = number f ≢ 1

pub bind_other : {A B F : Type 0} (number : F → ℕ) (r : Result A F) (f : A → Result B F) → IsOther number r → ((x : A) → IsOther number (f x)) → IsOther number (r >>= f)
bind_other number (Ok x) f h k = k x
bind_other number (Err e) f h k = h

pub demand_other : {F : Type 0} (number : F → ℕ) (met : Bool) (f : F) → number f ≢ 1 → IsOther number (demand met f)
demand_other number true f ne = tt
demand_other number false f ne = ne

pub some_or_other : {A F : Type 0} (number : F → ℕ) (o : Option A) (f : F) → number f ≢ 1 → IsOther number (some_or o f)
some_or_other number None f ne = ne
some_or_other number (Some x) f ne = tt

range_other : {A : Type 0} (met : Bool) (x : A) → IsOther number_in_line (cond met (Ok x) (Err of_line.OutOfRange))
range_other true x = tt
range_other false x = λ h. absurd (omega arith)

pub has_fields_other : (count : ℕ) (fields : List Word) → IsOther number_in_line (has_fields count fields)
has_fields_other count fields = demand_other number_in_line (length fields == count) of_line.WrongFieldCount (λ h. absurd (omega arith))

pub number_in_other : (word : Word) → IsOther number_in_line (number_in word)
number_in_other word = some_or_other number_in_line (natural word) of_line.NotANumber (λ h. absurd (omega arith))

pub natural_in_other : (low high : ℕ) (word : Word) → IsOther number_in_line (natural_in low high word)
natural_in_other low high word = bind_other number_in_line (number_in word) (λ n. if nat_le low n && nat_le n high then Ok n else Err of_line.OutOfRange) (number_in_other word) (λ n. range_other (nat_le low n && nat_le n high) n)

pub integer_in_other : (limit : ℤ) (word : Word) → IsOther number_in_line (integer_in limit word)
integer_in_other limit word = bind_other number_in_line (some_or (integer word) of_line.NotANumber) (λ z. if int_le (neg_ℤ limit) z && int_le z limit then Ok z else Err of_line.OutOfRange) (some_or_other number_in_line (integer word) of_line.NotANumber (λ h. absurd (omega arith))) (λ z. range_other (int_le (neg_ℤ limit) z && int_le z limit) z)
