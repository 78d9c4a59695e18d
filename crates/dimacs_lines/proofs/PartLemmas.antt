-- A text that goes on by a part with at most one LF.
use Rattle.std.proofs.Common.{◌≡◌, ℕ, suc, ◌+◌, ◌<◌, ◌≤◌, Bool, true, false, cond, not, ltb, List, [], ◌∷◌, ◌++◌, length, take, Some, None, refl, ap, ◌∙◌, arith}
use Rattle.std.proofs.Math.Numerals.{one-add, add-one}
use Rattle.std.specs.List.{position_or_len, before_first}
use Rattle.std.proofs.lemmas.List.{take_all}
use Rattle.std.proofs.lemmas.Bool.{eqb-true, ltb-true, ltb-false}
use Rattle.dimacs_lines.specs.Lines.{Line, Parts, parts_of, is_line_feed, is_too_long}
use Rattle.dimacs_lines.specs.Cut.{Cut, kept, extended, begun_line, cut_after, has_line_feed, bytes_used}
use Rattle.dimacs_lines.proofs.LineLemmas.{joined, joined_parts, parts_of-append}
use Rattle.dimacs_lines.proofs.GoesOnLemmas.{too_long-append}

-- the parts of a text with at most one LF, at its end
abbrev pub first_parts : Bool → Line → Parts
first_parts true line = record { ended = line ∷ []; rest = [] }
first_parts false line = record { ended = []; rest = line }

ended_by : (lf : Bool) (byte : ℕ) (piece : List ℕ) (place : ℕ) → is_line_feed byte ≡ lf → cond (not lf) (1 + place) 0 < suc (length piece)
    → (place < length piece → parts_of (take (suc place) piece) ≡ record { ended = take place piece ∷ []; rest = [] })
    → parts_of (take (suc (cond (not lf) (1 + place) 0)) (byte ∷ piece)) ≡ record { ended = take (cond (not lf) (1 + place) 0) (byte ∷ piece) ∷ []; rest = [] }
unfolding parts_of
ended_by true byte piece place is lt later = rw is refl
ended_by false byte piece place is lt later =
    let ih = later (omega arith) in
    rw (one-add, is, ih) refl

parts_of-ended : (piece : List ℕ) → position_or_len is_line_feed piece < length piece → parts_of (take (suc (position_or_len is_line_feed piece)) piece) ≡ record { ended = take (position_or_len is_line_feed piece) piece ∷ []; rest = [] }
parts_of-ended [] lt = absurd (omega arith)
parts_of-ended (byte ∷ piece) lt = ended_by (is_line_feed byte) byte piece (position_or_len is_line_feed piece) refl lt (parts_of-ended piece)

begun_by : (lf : Bool) (byte : ℕ) (piece : List ℕ) (place : ℕ) → is_line_feed byte ≡ lf → suc (length piece) ≤ cond (not lf) (1 + place) 0
    → (length piece ≤ place → parts_of piece ≡ record { ended = []; rest = piece }) → parts_of (byte ∷ piece) ≡ record { ended = []; rest = byte ∷ piece }
unfolding parts_of
begun_by true byte piece place is le later = absurd (omega arith)
begun_by false byte piece place is le later =
    let ih = later (omega arith) in
    rw (is, ih) refl

parts_of-begun : (piece : List ℕ) → length piece ≤ position_or_len is_line_feed piece → parts_of piece ≡ record { ended = []; rest = piece }
unfolding parts_of
parts_of-begun [] le = refl
parts_of-begun (byte ∷ piece) le = begun_by (is_line_feed byte) byte piece (position_or_len is_line_feed piece) refl le (parts_of-begun piece)

first_by : (has : Bool) (piece : List ℕ) → has_line_feed piece ≡ has → parts_of (take (cond has (position_or_len is_line_feed piece + 1) (length piece)) piece) ≡ first_parts has (before_first is_line_feed piece)
first_by true piece is = rw add-one (parts_of-ended piece (ltb-true _ _ is))
first_by false piece is =
    let le : length piece ≤ position_or_len is_line_feed piece = ltb-false _ _ is in
    rw (take_all (length piece) piece (omega arith), take_all (position_or_len is_line_feed piece) piece le) (parts_of-begun piece le)

line_feed_by : (lf : Bool) (byte : ℕ) (piece : List ℕ) (place : ℕ) → is_line_feed byte ≡ lf → cond (not lf) (1 + place) 0 < suc (length piece)
    → (place < length piece → take (suc place) piece ≡ take place piece ++ 10 ∷ [])
    → take (suc (cond (not lf) (1 + place) 0)) (byte ∷ piece) ≡ take (cond (not lf) (1 + place) 0) (byte ∷ piece) ++ 10 ∷ []
line_feed_by true byte piece place is lt later = ap (λ (b : ℕ). b ∷ []) (eqb-true byte 10 is)
line_feed_by false byte piece place is lt later =
    let ih = later (omega arith) in
    rw one-add (ap (λ (r : List ℕ). byte ∷ r) ih)

line_feed_at : (piece : List ℕ) → position_or_len is_line_feed piece < length piece
    → take (suc (position_or_len is_line_feed piece)) piece ≡ take (position_or_len is_line_feed piece) piece ++ 10 ∷ []
line_feed_at [] lt = absurd (omega arith)
line_feed_at (byte ∷ piece) lt = line_feed_by (is_line_feed byte) byte piece (position_or_len is_line_feed piece) refl lt (line_feed_at piece)

-- what is used of a piece ends with its first LF
pub line_feed_used : (piece : List ℕ) → has_line_feed piece ≡ true → take (bytes_used piece) piece ≡ before_first is_line_feed piece ++ 10 ∷ []
line_feed_used piece is = rw (is, add-one) (line_feed_at piece (ltb-true _ _ is))

pub parts_of-first : (piece : List ℕ) → parts_of (take (bytes_used piece) piece) ≡ first_parts (has_line_feed piece) (before_first is_line_feed piece)
parts_of-first piece = first_by (has_line_feed piece) piece refl

extended_by : (long : Bool) (rest line : Line) → is_too_long rest ≡ long → extended (cond long None (Some rest)) line ≡ kept (rest ++ line)
extended_by true rest line is = rw (too_long-append rest line is) refl
extended_by false rest line is = refl

pub extended-kept : (rest line : Line) → extended (kept rest) line ≡ kept (rest ++ line)
extended-kept rest line = extended_by (is_too_long rest) rest line refl

pub parts_with : (text part : List ℕ) (has : Bool) (line : Line) → parts_of part ≡ first_parts has line
    → parts_of (text ++ part) ≡ (let b = first_parts has line in joined_parts (parts_of text).ended (parts_of text).rest b.ended b.rest)
parts_with text part has line e = parts_of-append text part ∙ ap (joined (parts_of text)) e

pub cut_after_bytes : (cut : Cut) (piece : List ℕ) → 0 < length piece → cut_after cut piece ≡ record { line = extended (begun_line cut) (before_first is_line_feed piece); complete = has_line_feed piece }
cut_after_bytes cut [] some = absurd (omega arith)
cut_after_bytes cut (byte ∷ bytes) some = refl

used_by : (has : Bool) (place len : ℕ) → ltb place len ≡ has → 0 < len → (0 < cond has (place + 1) len) × (cond has (place + 1) len ≤ len)
used_by true place len is some = let lt : place < len = ltb-true _ _ is in (omega arith, omega arith)
used_by false place len is some = (some, omega arith)

-- a part has a byte, and no more than the piece
pub used_within : (piece : List ℕ) (used : ℕ) → 0 < length piece → used ≡ bytes_used piece → (0 < used) × (used ≤ length piece)
used_within piece used some e = rw e (used_by (has_line_feed piece) (position_or_len is_line_feed piece) (length piece) refl some)
