-- The line at the front of a text, from a place of it on.
use Rattle.std.specs.Prelude.{◌≡◌, ℕ, ◌+◌, ◌-◌, ◌<◌, ◌≤◌, true, List, [], ◌∷◌, Some, length, drop, ℤ}
use Rattle.std.specs.List.{position_or_len, before_first}
use Rattle.dimacs_lines.specs.declared.numbers.TheConstants.{DIGIT_LIMIT}
use Rattle.dimacs_lines.specs.Lines.{Line, is_line_feed}
use Rattle.dimacs_lines.specs.Fields.{Word, begins_blank, words_of, natural, integer}
use Rattle.dimacs_lines.specs.Digits.{FrontDigits}

-- one digit or more, as many as a number may have: where they end, and what they spell
pub record SomeDigits (text : List ℕ) (begin value end : ℕ) : Type 0 where
  pub some : begin < end
  pub few : end - begin ≤ DIGIT_LIMIT
  pub within : end ≤ length text
  pub spelt : FrontDigits value (end - begin) (drop begin text)

abbrev pub line_from : List ℕ → ℕ → Line
line_from text from = before_first is_line_feed (drop from text)

-- where its LF stands, or where the text ends
abbrev pub end_from : List ℕ → ℕ → ℕ
end_from text from = from + position_or_len is_line_feed (drop from text)

-- a word that stands behind a blank, and what follows it in the line where no more bytes belong to it
pub record IsNextWord (text : List ℕ) (from : ℕ) (word : Word) (end : ℕ) : Type 0 where
  pub behind_blank : begins_blank (line_from text from) ≡ true
  pub words_are : begins_blank (line_from text end) ≡ true → words_of (line_from text from) ≡ word ∷ words_of (line_from text end)
  pub one_line : end_from text end ≡ end_from text from

abbrev pub IsNextNatural : List ℕ → ℕ → ℕ → ℕ → Type 0
IsNextNatural text from value end = (word : Word) × (natural word ≡ Some value) × IsNextWord text from word end

abbrev pub IsNextInteger : List ℕ → ℕ → ℤ → ℕ → Type 0
IsNextInteger text from value end = (word : Word) × (integer word ≡ Some value) × IsNextWord text from word end

-- these words are left of the line, and its LF stands before this place
pub record AreLastWords (text : List ℕ) (from : ℕ) (words : List Word) (next : ℕ) : Type 0 where
  pub behind_blank : begins_blank (line_from text from) ≡ true
  pub words_are : words_of (line_from text from) ≡ words
  pub next_is : next ≡ end_from text from + 1
  pub within : next ≤ length text

-- no word is left of the line
abbrev pub EndsLine : List ℕ → ℕ → ℕ → Type 0
EndsLine text from next = AreLastWords text from [] next
