-- One line that is cut from a text in pieces.
use Rattle.std.specs.Prelude.{◌≡◌, ℕ, Bool, true, false, List, [], ◌∷◌, ◌++◌, Option, Some, None, length, nat_lt, ◌+◌, if◌then◌else◌}
use Rattle.std.specs.List.{position_or_len, before_first}
use Rattle.dimacs_lines.specs.Lines.{Line, parts_of, is_line_feed, is_too_long}

-- what stands of a line: its bytes, or that it is too long
abbrev pub kept : Line → Option Line
kept line = if is_too_long line then None else Some line

-- the line, and whether its LF has come
pub record Cut : Type 0 where
  pub line : Option Line
  pub complete : Bool

-- the line that the next byte belongs to
abbrev pub begun_line : Cut → Option Line
begun_line cut = if cut.complete then Some [] else cut.line

-- whether bytes stand after the last LF
abbrev pub has_bytes : Option Line → Bool
has_bytes None = true
has_bytes (Some []) = false
has_bytes (Some (byte ∷ bytes)) = true

abbrev pub is_begun : Cut → Bool
is_begun cut = has_bytes (begun_line cut)

-- a line, which may be too long, with more bytes at its end
abbrev pub extended : Option Line → Line → Option Line
extended None part = None
extended (Some line) part = kept (line ++ part)

-- whether a piece has an LF
abbrev pub has_line_feed : List ℕ → Bool
has_line_feed piece = nat_lt (position_or_len is_line_feed piece) (length piece)

-- the bytes of a piece through its first LF, or all where it has none
abbrev pub bytes_used : List ℕ → ℕ
bytes_used piece = if has_line_feed piece then position_or_len is_line_feed piece + 1 else length piece

-- the cut after a piece, whose bytes up to the first LF go to the line
abbrev pub cut_after : Cut → List ℕ → Cut
cut_after cut [] = cut
cut_after cut (byte ∷ bytes) = record { line = extended (begun_line cut) (before_first is_line_feed (byte ∷ bytes)); complete = has_line_feed (byte ∷ bytes) }

-- the line that the bytes of a piece up to its first LF go to, with them
abbrev pub part_line : Cut → List ℕ → Option Line
part_line cut piece = extended (begun_line cut) (before_first is_line_feed piece)

-- the line that is begun, after one part more
abbrev pub begun_with : Bool → Option Line → Option Line
begun_with complete line = if complete then Some [] else line

-- a line that stands whole at the front of a piece, with its LF
pub record IsWhole (line : Line) (piece : List ℕ) : Type 0 where
  pub line_is : line ≡ before_first is_line_feed piece
  pub ended : has_line_feed piece ≡ true
  pub fits : is_too_long line ≡ false

-- the line at the front of a text is ended and not too long, and with its LF it has so many bytes
pub record IsFront (used : ℕ) (text : List ℕ) : Type 0 where
  pub used_is : used ≡ bytes_used text
  pub ended : has_line_feed text ≡ true
  pub fits : is_too_long (before_first is_line_feed text) ≡ false

-- the cutter holds the line that a text leaves unended, or that it is too long
abbrev pub HoldsRest : Cut → List ℕ → Type 0
HoldsRest cut text = begun_line cut ≡ kept (parts_of text).rest

-- a line is begun where the text leaves bytes, and then it is they
abbrev pub BeginsRest : Bool → Cut → List ℕ → Type 0
BeginsRest true cut text = cut.line ≡ kept (parts_of text).rest
BeginsRest false cut text = (parts_of text).rest ≡ []

-- the lines that are ended, with one more where its LF has come
abbrev pub ended_with : Bool → List Line → Line → List Line
ended_with true ended line = ended ++ line ∷ []
ended_with false ended line = ended

-- a text goes on to a longer one, by the rest of one line: it is ended exactly where it is complete
pub record CutsLine (old new : Cut) (complete : Bool) (text longer : List ℕ) : Type 0 where
  pub line : Line
  pub ended : (parts_of longer).ended ≡ ended_with complete (parts_of text).ended line
  pub shown : complete ≡ true → new.line ≡ kept line
  pub rest : HoldsRest new longer
