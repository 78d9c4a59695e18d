-- The checks of a line, one after the other: the first that fails gives its fault.
use Rattle.std.specs.Prelude.{ℕ, ◌==◌, Bool, ◌&&◌, List, length, Option, Some, None, Result, Ok, Err, nat_le, if◌then◌else◌, ℤ, neg_ℤ, int_le}
use Rattle.dimacs_lines.specs.declared.fault.LineFault.{LineFault}
use Rattle.dimacs_lines.specs.declared.fault.LineFault.TheVariants as fault
use Rattle.dimacs_lines.specs.Fields.{Word, natural, integer}

-- ---- of any text

infixl 10 ◌>>=◌
abbrev pub ◌>>=◌ : {A B F : Type 0} → Result A F → (A → Result B F) → Result B F
(Ok x) >>= f = f x
(Err e) >>= f = Err e

abbrev pub demand : {F : Type 0} → Bool → F → Result (Unit {0}) F
demand met fault = if met then Ok tt else Err fault

abbrev pub some_or : {A F : Type 0} → Option A → F → Result A F
some_or None fault = Err fault
some_or (Some x) fault = Ok x

-- the fault of a line, as one of a text whose faults hold those of a line
abbrev pub held_as : {A F : Type 0} → (LineFault → F) → Result A LineFault → Result A F
held_as as_fault (Ok x) = Ok x
held_as as_fault (Err fault) = Err (as_fault fault)

-- the number of the fault
abbrev pub numbered : {A F : Type 0} → (F → ℕ) → Result A F → Result A ℕ
numbered number_of (Ok x) = Ok x
numbered number_of (Err fault) = Err (number_of fault)

-- ---- of a line by itself

-- so many fields
abbrev pub has_fields : ℕ → List Word → Result (Unit {0}) LineFault
has_fields count fields = demand (length fields == count) fault.WrongFieldCount

-- a field that spells a number, in no range
abbrev pub number_in : Word → Result ℕ LineFault
number_in word = some_or (natural word) fault.NotANumber

-- a field: first the shape, then the range
abbrev pub natural_in : ℕ → ℕ → Word → Result ℕ LineFault
natural_in low high word = number_in word >>= λ n. if nat_le low n && nat_le n high then Ok n else Err fault.OutOfRange

-- a field with a sign, at most limit either way
abbrev pub integer_in : ℤ → Word → Result ℤ LineFault
integer_in limit word = some_or (integer word) fault.NotANumber >>= λ z. if int_le (neg_ℤ limit) z && int_le z limit then Ok z else Err fault.OutOfRange
