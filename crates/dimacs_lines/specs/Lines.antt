-- The lines of a text.
use Rattle.std.specs.Prelude.{ℕ, ◌<◌, Bool, List, [], ◌∷◌, ◌++◌, length, nat_lt, ◌==◌, if◌then◌else◌}
use Rattle.std.specs.List.{All}
use Rattle.dimacs_lines.specs.declared.cutter.TheConstants.{LINE_LIMIT}

abbrev pub Line : Type 0
Line = List ℕ

-- LF ends a line
abbrev pub is_line_feed : ℕ → Bool
is_line_feed byte = byte == 10

-- the lines that an LF ends, and the bytes after the last LF
pub record Parts : Type 0 where
  pub ended : List Line
  pub rest : Line

-- the byte before the first of the parts
abbrev pub with_first : ℕ → List Line → Line → Parts
with_first byte [] rest = record { ended = []; rest = byte ∷ rest }
with_first byte (line ∷ lines) rest = record { ended = (byte ∷ line) ∷ lines; rest = rest }

unfoldable pub parts_of : List ℕ → Parts
parts_of [] = record { ended = []; rest = [] }
parts_of (byte ∷ text) = let parts = parts_of text in
    if is_line_feed byte then record { ended = [] ∷ parts.ended; rest = parts.rest } else with_first byte parts.ended parts.rest

-- a last line without LF counts where it has a byte
abbrev pub last_line : Line → List Line
last_line [] = []
last_line (byte ∷ bytes) = (byte ∷ bytes) ∷ []

-- all lines of a text
abbrev pub lines_of : List ℕ → List Line
lines_of text = (parts_of text).ended ++ last_line (parts_of text).rest

-- a line has at most so many bytes before its LF
abbrev pub is_too_long : Line → Bool
is_too_long line = nat_lt LINE_LIMIT (length line)

-- the numbers of bytes
abbrev pub IsBytes : List ℕ → Type 0
IsBytes bytes = All (λ byte. byte < 256) bytes
