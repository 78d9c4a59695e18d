-- The line that a text leaves unended, through a part of a piece.
use Rattle.std.proofs.Common.{◌≡◌, ℕ, ◌<◌, Bool, true, false, List, [], ◌∷◌, ◌++◌, length, take, Option, refl, ap, ◌∙◌, arith}
use Rattle.std.specs.List.{before_first}
use Rattle.std.proofs.lemmas.List.{append-nil}
use Rattle.dimacs_lines.specs.Lines.{Line, Parts, parts_of, is_line_feed}
use Rattle.dimacs_lines.specs.Cut.{Cut, kept, extended, begun_line, cut_after, has_line_feed, bytes_used, begun_with, HoldsRest, ended_with, CutsLine}
use Rattle.dimacs_lines.proofs.PartLemmas.{first_parts, parts_of-first, parts_with, extended-kept, cut_after_bytes}

ended_by : (has : Bool) (text part : List ℕ) (line : Line) → parts_of part ≡ first_parts has line → (parts_of (text ++ part)).ended ≡ ended_with has (parts_of text).ended ((parts_of text).rest ++ line)
ended_by true text part line e = ap (λ (p : Parts). p.ended) (parts_with text part true line e)
ended_by false text part line e = ap (λ (p : Parts). p.ended) (parts_with text part false line e)

rest_by : (has : Bool) (text part : List ℕ) (line : Line) → parts_of part ≡ first_parts has line → begun_with has (kept ((parts_of text).rest ++ line)) ≡ kept (parts_of (text ++ part)).rest
rest_by true text part line e = rw (parts_with text part true line e) refl
rest_by false text part line e = rw (parts_with text part false line e) refl

bytes_cut : (cut : Cut) (text piece : List ℕ) → 0 < length piece → HoldsRest cut text → CutsLine cut (cut_after cut piece) (has_line_feed piece) text (text ++ take (bytes_used piece) piece)
bytes_cut cut text piece some holds =
    let first = before_first is_line_feed piece in let has = has_line_feed piece in let p = parts_of text in
    let line_is : extended (begun_line cut) first ≡ kept (p.rest ++ first) = ap (λ (b : Option Line). extended b first) holds ∙ extended-kept p.rest first in
    let begun : begun_line (cut_after cut piece) ≡ begun_with has (kept (p.rest ++ first)) = ap begun_line (cut_after_bytes cut piece some) ∙ ap (begun_with has) line_is in
    record {
      line = p.rest ++ first;
      ended = ended_by has text (take (bytes_used piece) piece) first (parts_of-first piece);
      shown = λ _. ap (λ (c : Cut). c.line) (cut_after_bytes cut piece some) ∙ line_is;
      rest = begun ∙ rest_by has text (take (bytes_used piece) piece) first (parts_of-first piece);
    }

-- a piece is cut at its first LF
pub piece_cut : (cut : Cut) (text piece : List ℕ) → HoldsRest cut text → CutsLine cut (cut_after cut piece) (has_line_feed piece) text (text ++ take (bytes_used piece) piece)
piece_cut cut text [] holds = record { line = []; ended = rw append-nil refl; shown = λ e. absurd cc; rest = rw append-nil holds }
piece_cut cut text (byte ∷ piece) holds = bytes_cut cut text (byte ∷ piece) (omega arith) holds
