-- The first word of a line, and the words after it.
use Rattle.std.proofs.Common.{◌≡◌, ℕ, suc, ◌+◌, ◌<◌, Bool, true, false, cond, not, [], ◌∷◌, length, take, drop, get_or, refl, ap, ◌∙◌, arith}
use Rattle.std.proofs.Math.Numerals.{one-add}
use Rattle.std.specs.List.{position_or_len}
use Rattle.std.proofs.lemmas.List.{drop_more, nil_from_length, length-drop}
use Rattle.std.proofs.lemmas.List.Sums.{passes_at_first}
use Rattle.std.proofs.lemmas.Bool.{not-true}
use Rattle.dimacs_lines.specs.Lines.{Line}
use Rattle.dimacs_lines.specs.Fields.{is_blank, begins_blank, with_byte, words_of}

abbrev pub is_solid : ℕ → Bool
is_solid byte = not (is_blank byte)

pub words_of-nothing : words_of [] ≡ []
unfolding words_of
words_of-nothing = refl

skip_by : (blank : Bool) (byte : ℕ) (line : Line) (place : ℕ) → is_blank byte ≡ blank → words_of line ≡ words_of (drop place line) → words_of (byte ∷ line) ≡ words_of (drop (cond (not (not blank)) (1 + place) 0) (byte ∷ line))
unfolding words_of
skip_by true byte line place is later = rw (one-add, is) later
skip_by false byte line place is later = refl

-- blanks at the front are in no word
pub words_of-skip : (line : Line) → words_of line ≡ words_of (drop (position_or_len is_solid line) line)
words_of-skip [] = refl
words_of-skip (byte ∷ line) = skip_by (is_blank byte) byte line (position_or_len is_solid line) refl (words_of-skip line)

pub words_of-solid : (byte : ℕ) (line : Line) → is_blank byte ≡ false → words_of (byte ∷ line) ≡ with_byte (begins_blank line) byte (words_of line)
unfolding words_of
words_of-solid byte line solid = rw solid refl

first_by : (blank : Bool) (byte next : ℕ) (line : Line) (place : ℕ) → is_blank byte ≡ false → is_blank next ≡ blank
    → (is_blank next ≡ false → words_of (next ∷ line) ≡ take (suc place) (next ∷ line) ∷ words_of (drop (suc place) (next ∷ line)))
    → words_of (byte ∷ next ∷ line) ≡ take (suc (cond (not blank) (1 + place) 0)) (byte ∷ next ∷ line) ∷ words_of (drop (suc (cond (not blank) (1 + place) 0)) (byte ∷ next ∷ line))
first_by true byte next line place solid is later = words_of-solid byte (next ∷ line) solid ∙ rw is refl
first_by false byte next line place solid is later =
    let ih = later is in
    rw one-add (words_of-solid byte (next ∷ line) solid ∙ rw (is, ih) refl)

-- the first word ends before the first blank
pub words_of-first : (byte : ℕ) (line : Line) → is_blank byte ≡ false → words_of (byte ∷ line) ≡ take (suc (position_or_len is_blank line)) (byte ∷ line) ∷ words_of (drop (suc (position_or_len is_blank line)) (byte ∷ line))
words_of-first byte [] solid = words_of-solid byte [] solid ∙ words_of-end byte
  where
    words_of-end : (byte : ℕ) → with_byte true byte (words_of []) ≡ (byte ∷ []) ∷ words_of []
    words_of-end byte = refl
words_of-first byte (next ∷ line) solid = first_by (is_blank next) byte next line (position_or_len is_blank line) solid refl (words_of-first next line)

pub nothing_left : (line : Line) (skipped : ℕ) → skipped ≡ position_or_len is_solid line → length (drop skipped line) ≡ 0 → words_of line ≡ []
nothing_left line skipped e none = words_of-skip line ∙ rw (← e, nil_from_length (drop skipped line) none) words_of-nothing

place_by : (byte : ℕ) (line : Line) → is_blank byte ≡ false → position_or_len is_blank (byte ∷ line) ≡ suc (position_or_len is_blank line)
place_by byte line e = rw (e, one-add) refl

pub first_word : (line : Line) (skipped len : ℕ) → skipped ≡ position_or_len is_solid line → 0 < length (drop skipped line) → len ≡ position_or_len is_blank (drop skipped line)
    → (words_of line ≡ take len (drop skipped line) ∷ words_of (drop len (drop skipped line))) × (0 < len)
first_word line skipped len e some len_is =
    let within : skipped < length line = omega (arith, length-drop skipped line) in
    let solid : is_blank (get_or line skipped 0) ≡ false = not-true (is_blank (get_or line skipped 0)) (rw e (passes_at_first is_solid line 0 (rw (← e) within))) in
    let begun : drop skipped line ≡ get_or line skipped 0 ∷ drop (skipped + 1) line = drop_more line skipped 0 within in
    let place : len ≡ suc (position_or_len is_blank (drop (skipped + 1) line)) = len_is ∙ ap (position_or_len is_blank) begun ∙ place_by (get_or line skipped 0) (drop (skipped + 1) line) solid in
    (words_of-skip line ∙ rw (← e, begun, place) (words_of-first (get_or line skipped 0) (drop (skipped + 1) line) solid), omega arith)
