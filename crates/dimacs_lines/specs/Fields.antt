-- The words of a line, its fields, and the numbers that words spell.
use Rattle.std.specs.Prelude.{ℕ, ◌+◌, ◌-◌, ◌*◌, ◌≤◌, Bool, true, false, not, ◌&&◌, ◌||◌, List, [], ◌∷◌, Option, Some, None, length, take, drop, slice_index_or, unwrap_or, bytes_eq, codes, nat_le, ◌==◌, if◌then◌else◌, ℤ, pos, neg_ℤ}
use Rattle.std.specs.List.{fold, list_all, position_or_len}
use Rattle.std.specs.Option.{option_map}
use Rattle.dimacs_lines.specs.declared.numbers.TheConstants.{DIGIT_LIMIT, VALUE_DIGIT_LIMIT}
use Rattle.dimacs_lines.specs.Lines.{Line}

abbrev pub Word : Type 0
Word = List ℕ

-- space, tab and CR
abbrev pub is_blank : ℕ → Bool
is_blank byte = byte == 32 || byte == 9 || byte == 13

abbrev pub begins_blank : Line → Bool
begins_blank [] = true
begins_blank (byte ∷ line) = is_blank byte

-- the byte at the front of the first word, or as a word of its own
abbrev pub with_byte : Bool → ℕ → List Word → List Word
with_byte true byte words = (byte ∷ []) ∷ words
with_byte false byte [] = (byte ∷ []) ∷ []
with_byte false byte (word ∷ words) = (byte ∷ word) ∷ words

-- the words of a line, its largest runs of bytes that are no blank
unfoldable pub words_of : Line → List Word
words_of [] = []
words_of (byte ∷ line) = if is_blank byte then words_of line else with_byte (begins_blank line) byte (words_of line)

-- where the next word begins from a place on, or where the line ends
abbrev pub word_begin : Line → ℕ → ℕ
word_begin line from = from + position_or_len (λ byte. not (is_blank byte)) (drop from line)

abbrev pub is_digit : ℕ → Bool
is_digit byte = nat_le 48 byte && nat_le byte 57

-- the number that digits spell
abbrev pub digits_value : Word → ℕ
digits_value digits = fold (λ value digit. 10 * value + (digit - 48)) 0 digits

-- one digit or more, and no more than so many
abbrev pub natural_within : ℕ → Word → Option ℕ
natural_within limit word = if nat_le 1 (length word) && nat_le (length word) limit && list_all is_digit word then Some (digits_value word) else None

abbrev pub natural : Word → Option ℕ
natural word = natural_within DIGIT_LIMIT word

-- one `-` or none, and what stands after it
abbrev pub is_negative : Word → Bool
is_negative [] = false
is_negative (byte ∷ word) = byte == 45

abbrev pub without_sign : Word → Word
without_sign [] = []
without_sign (byte ∷ word) = if byte == 45 then word else byte ∷ word

abbrev pub with_sign : Bool → ℕ → ℤ
with_sign true n = neg_ℤ (pos n)
with_sign false n = pos n

-- the same, after one `-` or none
unfoldable pub integer : Word → Option ℤ
integer word = option_map (with_sign (is_negative word)) (natural (without_sign word))

-- the value of an answer, which has more digits
unfoldable pub claimed_value : Word → Option ℤ
claimed_value word = option_map (with_sign (is_negative word)) (natural_within VALUE_DIGIT_LIMIT (without_sign word))

-- ---- of a line with a designator, its first word

-- the word begins with `c`
abbrev pub begins_comment : Word → Bool
begins_comment word = bytes_eq (take 1 word) (codes "c")

-- the words after the designator
abbrev pub fields_of : List Word → List Word
fields_of words = drop 1 words

abbrev pub field : ℕ → List Word → Word
field place fields = slice_index_or fields place []

-- the number of a field, where it is one
abbrev pub natural_value : Word → ℕ
natural_value word = unwrap_or (natural word) 0

abbrev pub integer_value : Word → ℤ
integer_value word = unwrap_or (integer word) (pos 0)

-- one of so many nodes, which count from 1
abbrev pub IsNode : ℕ → ℕ → Type 0
IsNode nodes id = (1 ≤ id) × (id ≤ nodes)
