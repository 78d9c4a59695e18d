-- The names of marks.
use Rattle.std.specs.Prelude.{ℕ, ◌-◌, Bool, ◌&&◌, ◌||◌, List, ◌++◌, Option, Some, None, length, nat_le, replicate, if◌then◌else◌}
use Rattle.std.specs.List.{list_all}
use Rattle.dimacs_lines.specs.declared.name.TheConstants.{NAME_LIMIT}

-- `a` to `z` and `A` to `Z`
abbrev pub is_letter : ℕ → Bool
is_letter byte = (nat_le 97 byte && nat_le byte 122) || (nat_le 65 byte && nat_le byte 90)

-- one letter or more, and no more than so many
abbrev pub is_name : List ℕ → Bool
is_name word = nat_le 1 (length word) && nat_le (length word) NAME_LIMIT && list_all is_letter word

-- the name that a word is
abbrev pub name_of : List ℕ → Option (List ℕ)
name_of word = if is_name word then Some word else None

-- letters, with 0 in each place behind them
abbrev pub filled : List ℕ → List ℕ
filled letters = letters ++ replicate (NAME_LIMIT - length letters) 0
