-- The words of the line at the front of a text, one after the other, and its LF.
use Rattle.std.proofs.Common.{◌≡◌, ℕ, ◌+◌, ◌-◌, ◌<◌, ◌≤◌, Bool, true, false, not, List, [], ◌∷◌, ◌++◌, length, take, drop, get_or, Option, Some, None, IfSome, pos, neg_ℤ, ◌-ℤ◌, refl, sym, ap, ◌∙◌, arith}
use Rattle.std.proofs.Math.Numerals.{one-add}
use Rattle.std.proofs.lemmas.Bool.{lt-ltb, le-ltb}
use Rattle.std.proofs.lemmas.Bool.Decides.{nat_tests}
use Rattle.std.proofs.lemmas.List.{length-take, length-drop, take-append-drop, drop-drop, drop_more}
use Rattle.std.specs.List.{list_all, position_or_len, before_first}
use Rattle.dimacs_lines.specs.declared.numbers.TheConstants.{DIGIT_LIMIT}
use Rattle.dimacs_lines.specs.declared.cutter.TheConstants.{LINE_LIMIT}
use Rattle.dimacs_lines.specs.Cut.{IsFront, has_line_feed}
use Rattle.dimacs_lines.specs.Lines.{Line, is_line_feed}
use Rattle.dimacs_lines.specs.Fields.{Word, is_blank, begins_blank, words_of, natural, integer}
use Rattle.dimacs_lines.specs.Front.{SomeDigits, line_from, IsNextWord, IsNextNatural, IsNextInteger, AreLastWords, EndsLine}
use Rattle.dimacs_lines.proofs.WordLemmas.{is_solid, words_of-solid, words_of-nothing}
use Rattle.dimacs_lines.proofs.NumberLemmas.{digits_are}
use Rattle.dimacs_lines.proofs.DigitLemmas.{blank_skipped, not_negative}
use Rattle.dimacs_lines.proofs.Written.{first_of, not_true, is_plain, digits_solid, digits_plain}

-- ---- bytes that are no LF, before others

pub end_behind : (front rest : List ℕ) → list_all is_plain front ≡ true → position_or_len is_line_feed (front ++ rest) ≡ length front + position_or_len is_line_feed rest
end_behind [] rest e = omega arith
end_behind (byte ∷ front) rest e =
    let both = first_of (not (is_line_feed byte)) (list_all is_plain front) e in
    rw both.0 (omega (arith, end_behind front rest both.1))

line_behind : (front rest : List ℕ) → list_all is_plain front ≡ true → before_first is_line_feed (front ++ rest) ≡ front ++ before_first is_line_feed rest
line_behind [] rest e = refl
line_behind (byte ∷ front) rest e =
    let both = first_of (not (is_line_feed byte)) (list_all is_plain front) e in
    rw (both.0, one-add) (ap (λ (r : Line). byte ∷ r) (line_behind front rest both.1))

-- ---- blanks, and the word behind them

blank_is_plain : (byte : ℕ) → is_blank byte ≡ true → is_plain byte ≡ true
blank_is_plain byte e = grind (arith, nat_tests)

blanks_plain : (blanks : Line) → list_all is_blank blanks ≡ true → list_all is_plain blanks ≡ true
blanks_plain [] e = refl
blanks_plain (byte ∷ blanks) e =
    let both = first_of (is_blank byte) (list_all is_blank blanks) e in
    rw (blank_is_plain byte both.0, blanks_plain blanks both.1) refl

blanks_skipped : (blanks rest : Line) → list_all is_blank blanks ≡ true → words_of (blanks ++ rest) ≡ words_of rest
blanks_skipped [] rest e = refl
blanks_skipped (byte ∷ blanks) rest e =
    let both = first_of (is_blank byte) (list_all is_blank blanks) e in
    blank_skipped byte (blanks ++ rest) both.0 ∙ blanks_skipped blanks rest both.1

blank_first : (blanks rest : Line) → 0 < length blanks → list_all is_blank blanks ≡ true → begins_blank (blanks ++ rest) ≡ true
blank_first [] rest some e = absurd (omega arith)
blank_first (byte ∷ blanks) rest some e = (first_of (is_blank byte) (list_all is_blank blanks) e).0

blank_or_end : (blanks rest : Line) → list_all is_blank blanks ≡ true → begins_blank rest ≡ true → begins_blank (blanks ++ rest) ≡ true
blank_or_end [] rest e ends = ends
blank_or_end (byte ∷ blanks) rest e ends = (first_of (is_blank byte) (list_all is_blank blanks) e).0

-- all bytes before the first that is no blank
blanks_by : (blank : Bool) (byte : ℕ) (bytes : Line) → is_blank byte ≡ blank → list_all is_blank (take (position_or_len is_solid bytes) bytes) ≡ true
    → list_all is_blank (take (position_or_len is_solid (byte ∷ bytes)) (byte ∷ bytes)) ≡ true
blanks_by true byte bytes e later = rw (e, one-add, e) later
blanks_by false byte bytes e later = rw e refl

blanks_before : (bytes : Line) → list_all is_blank (take (position_or_len is_solid bytes) bytes) ≡ true
blanks_before [] = refl
blanks_before (byte ∷ bytes) = blanks_by (is_blank byte) byte bytes refl (blanks_before bytes)

word_first : (word rest : Line) → 0 < length word → list_all is_solid word ≡ true → begins_blank rest ≡ true → words_of (word ++ rest) ≡ word ∷ words_of rest
word_first [] rest some solid ends = absurd (omega arith)
word_first (byte ∷ []) rest some solid ends =
    words_of-solid byte rest (not_true (is_blank byte) (first_of (is_solid byte) true solid).0) ∙ rw ends refl
word_first (byte ∷ next ∷ word) rest some solid ends =
    let here = first_of (is_solid byte) (list_all is_solid (next ∷ word)) solid in
    let later = first_of (is_solid next) (list_all is_solid word) here.1 in
    words_of-solid byte (next ∷ word ++ rest) (not_true (is_blank byte) here.0)
    ∙ rw (not_true (is_blank next) later.0, word_first (next ∷ word) rest (omega arith) here.1 ends) refl

-- the bytes of a text between three places of it
between : (text : List ℕ) (from begin end : ℕ) → from ≤ begin → begin ≤ end
    → drop from text ≡ take (begin - from) (drop from text) ++ (take (end - begin) (drop begin text) ++ drop end text)
between text from begin end before order =
    let first : drop (begin - from) (drop from text) ≡ drop begin text = drop-drop (begin - from) from text ∙ ap (λ (n : ℕ). drop n text) (omega arith) in
    let second : drop (end - begin) (drop begin text) ≡ drop end text = drop-drop (end - begin) begin text ∙ ap (λ (n : ℕ). drop n text) (omega arith) in
    sym (take-append-drop (begin - from) (drop from text))
    ∙ ap (λ (r : List ℕ). take (begin - from) (drop from text) ++ r) (first ∙ sym (take-append-drop (end - begin) (drop begin text)) ∙ ap (λ (r : List ℕ). take (end - begin) (drop begin text) ++ r) second)

length_between : (text : List ℕ) (begin end : ℕ) → begin ≤ end → end ≤ length text → length (take (end - begin) (drop begin text)) ≡ end - begin
length_between text begin end order within = omega (arith, length-take (end - begin) (drop begin text), length-drop begin text)

-- blanks, a word and what follows them
next_by : (text : List ℕ) (from end : ℕ) (blanks word : Line) → drop from text ≡ blanks ++ (word ++ drop end text) → end ≡ from + (length blanks + length word)
    → 0 < length blanks → list_all is_blank blanks ≡ true → 0 < length word → list_all is_solid word ≡ true → list_all is_plain word ≡ true → IsNextWord text from word end
next_by text from end blanks word parts place some blank some_word solid plain =
    let rest = drop end text in
    let bare = blanks_plain blanks blank in
    let line_is : line_from text from ≡ blanks ++ (word ++ line_from text end) =
    ap (before_first is_line_feed) parts ∙ line_behind blanks (word ++ rest) bare ∙ ap (λ (r : Line). blanks ++ r) (line_behind word rest plain) in
    let end_is : position_or_len is_line_feed (drop from text) ≡ length blanks + (length word + position_or_len is_line_feed rest) =
    ap (position_or_len is_line_feed) parts ∙ end_behind blanks (word ++ rest) bare ∙ ap (λ (n : ℕ). length blanks + n) (end_behind word rest plain) in
    record {
      behind_blank = ap begins_blank line_is ∙ blank_first blanks (word ++ line_from text end) some blank;
      words_are = λ ends. ap words_of line_is ∙ blanks_skipped blanks (word ++ line_from text end) blank ∙ word_first word (line_from text end) some_word solid ends;
      one_line = omega (arith, end_is, place);
    }

pub next_word_is : (text : List ℕ) (from begin end : ℕ) → from < begin → begin < end → end ≤ length text → list_all is_blank (take (begin - from) (drop from text)) ≡ true
    → list_all is_solid (take (end - begin) (drop begin text)) ≡ true → list_all is_plain (take (end - begin) (drop begin text)) ≡ true → IsNextWord text from (take (end - begin) (drop begin text)) end
next_word_is text from begin end before order within blank solid plain =
    let blanks = length_between text from begin (omega arith) (omega arith) in
    let word = length_between text begin end (omega arith) within in
    next_by text from end (take (begin - from) (drop from text)) (take (end - begin) (drop begin text)) (between text from begin end (omega arith) (omega arith)) (omega arith) (omega arith) blank (omega arith) solid plain

-- ---- numbers

natural_at : (text : List ℕ) (begin end value : ℕ) → SomeDigits text begin value end → natural (take (end - begin) (drop begin text)) ≡ Some value
natural_at text begin end value digits =
    let word = take (end - begin) (drop begin text) in
    let len = length_between text begin end (omega (arith, digits.some)) digits.within in
    digits_are DIGIT_LIMIT word (omega (arith, digits.some)) (omega (arith, digits.few)) ∙ rw digits.spelt.are_digits (ap (λ (n : ℕ). Some n) (sym (digits.spelt.value_is digits.few)))

-- all bytes between a place and the first that is no blank
blank_between : (text : List ℕ) (from begin : ℕ) → begin ≡ from + position_or_len is_solid (drop from text) → list_all is_blank (take (begin - from) (drop from text)) ≡ true
blank_between text from begin e =
    let count : begin - from ≡ position_or_len is_solid (drop from text) = omega (arith, e) in
    rw count (blanks_before (drop from text))

pub next_natural_is : (text : List ℕ) (from begin end value : ℕ) → begin ≡ from + position_or_len is_solid (drop from text) → from < begin → SomeDigits text begin value end → IsNextNatural text from value end
next_natural_is text from begin end value place before digits =
    let word = take (end - begin) (drop begin text) in
    (word, natural_at text begin end value digits, next_word_is text from begin end before digits.some digits.within (blank_between text from begin place) (digits_solid word digits.spelt.are_digits) (digits_plain word digits.spelt.are_digits))

pub natural_read : (text : List ℕ) (from begin : ℕ) (read : Option (ℕ × ℕ)) → begin ≡ from + position_or_len is_solid (drop from text) → from < begin → IfSome read (λ read. SomeDigits text begin read.0 read.1)
    → IfSome read (λ next. IsNextNatural text from next.0 next.1)
natural_read text from begin None place before digits = tt
natural_read text from begin (Some read) place before digits = next_natural_is text from begin read.1 read.0 place before digits

-- a number without a sign is one with a sign too
pub integer_from_natural : (text : List ℕ) (from value end : ℕ) → IsNextNatural text from value end → IsNextInteger text from (pos value) end
integer_from_natural text from value end next = (next.0, not_negative next.0 value next.1, next.2)

pub below_zero : (n : ℕ) → pos 0 -ℤ pos n ≡ neg_ℤ (pos n)
below_zero n = grind arith

negative_word : (digits : Word) (value : ℕ) → natural digits ≡ Some value → integer (45 ∷ digits) ≡ Some (neg_ℤ (pos value))
unfolding integer
negative_word digits value e = rw e refl

pub next_negative_is : (text : List ℕ) (from begin end value : ℕ) → begin ≡ from + position_or_len is_solid (drop from text) → from < begin → begin < length text → get_or text begin 0 ≡ 45
    → SomeDigits text (begin + 1) value end → IsNextInteger text from (neg_ℤ (pos value)) end
next_negative_is text from begin end value place before lt minus digits =
    let some = digits.some in
    let spelt = take (end - (begin + 1)) (drop (begin + 1) text) in
    let word = take (end - begin) (drop begin text) in
    let count : end - begin ≡ 1 + (end - (begin + 1)) = omega arith in
    let word_is : word ≡ 45 ∷ spelt = rw (count, one-add, drop_more text begin 0 lt, minus) refl in (
      word,
      ap integer word_is ∙ negative_word spelt value (natural_at text (begin + 1) end value digits),
      next_word_is text from begin end before (omega arith) digits.within (blank_between text from begin place)
          (ap (list_all is_solid) word_is ∙ digits_solid spelt digits.spelt.are_digits) (ap (list_all is_plain) word_is ∙ digits_plain spelt digits.spelt.are_digits),
    )

-- ---- the end of a line

pub line_ends : (text : List ℕ) (at : ℕ) → at < length text → get_or text at 0 ≡ 10 → EndsLine text at (at + 1)
line_ends text at lt feed =
    let begins : drop at text ≡ 10 ∷ drop (at + 1) text = drop_more text at 0 lt ∙ ap (λ (b : ℕ). b ∷ drop (at + 1) text) feed in
    record {
      behind_blank = rw begins refl;
      words_are = rw begins words_of-nothing;
      next_is = rw begins (omega arith);
      within = omega arith;
    }

pub blanks_end : (text : List ℕ) (from at : ℕ) → at ≡ from + position_or_len is_solid (drop from text) → at < length text → get_or text at 0 ≡ 10 → EndsLine text from (at + 1)
blanks_end text from at place lt feed =
    let ends = line_ends text at lt feed in
    let blanks = take (at - from) (drop from text) in
    let blank = blank_between text from at place in
    let len = length_between text from at (omega arith) (omega arith) in
    let back : drop (at - from) (drop from text) ≡ drop at text = drop-drop (at - from) from text ∙ ap (λ (n : ℕ). drop n text) (omega arith) in
    let parts : drop from text ≡ blanks ++ drop at text = sym (take-append-drop (at - from) (drop from text)) ∙ ap (λ (r : List ℕ). blanks ++ r) back in
    let line_is : line_from text from ≡ blanks ++ line_from text at = ap (before_first is_line_feed) parts ∙ line_behind blanks (drop at text) (blanks_plain blanks blank) in
    let end_is : position_or_len is_line_feed (drop from text) ≡ length blanks + position_or_len is_line_feed (drop at text) = ap (position_or_len is_line_feed) parts ∙ end_behind blanks (drop at text) (blanks_plain blanks blank) in
    record {
      behind_blank = ap begins_blank line_is ∙ blank_or_end blanks (line_from text at) blank ends.behind_blank;
      words_are = ap words_of line_is ∙ blanks_skipped blanks (line_from text at) blank ∙ ends.words_are;
      next_is = omega (arith, ends.next_is, end_is);
      within = ends.within;
    }

-- one word more before the last ones
pub word_more : (text : List ℕ) (from end next : ℕ) (word : Word) (words : List Word) → IsNextWord text from word end → AreLastWords text end words next → AreLastWords text from (word ∷ words) next
word_more text from end next word words first last = record {
  behind_blank = first.behind_blank;
  words_are = first.words_are last.behind_blank ∙ ap (λ (left : List Word). word ∷ left) last.words_are;
  next_is = omega (arith, last.next_is, first.one_line);
  within = last.within;
}

-- a line whose first word is one byte
pub first_line : (text : List ℕ) (byte : ℕ) (words : List Word) (used : ℕ) → 0 < length text → get_or text 0 0 ≡ byte → is_solid byte ≡ true → is_plain byte ≡ true
    → AreLastWords text 1 words used → used ≤ LINE_LIMIT → IsFront used text × (words_of (before_first is_line_feed text) ≡ (byte ∷ []) ∷ words)
first_line [] byte words used some first solid plain last fits = absurd (omega arith)
first_line (head ∷ rest) byte words used some first solid plain last fits =
    let one : list_all is_plain (head ∷ []) ≡ true = rw (first, plain) refl in
    let place : position_or_len is_line_feed (head ∷ rest) ≡ 1 + position_or_len is_line_feed rest = end_behind (head ∷ []) rest one in
    let line_is : before_first is_line_feed (head ∷ rest) ≡ head ∷ line_from (head ∷ rest) 1 = line_behind (head ∷ []) rest one in
    let used_is : used ≡ position_or_len is_line_feed (head ∷ rest) + 1 = omega (arith, place, last.next_is) in
    let ended : has_line_feed (head ∷ rest) ≡ true = lt-ltb (position_or_len is_line_feed (head ∷ rest)) (length (head ∷ rest)) (omega (arith, used_is, last.within)) in (
      record {
        used_is = rw ended used_is;
        ended = ended;
        fits = le-ltb LINE_LIMIT (length (before_first is_line_feed (head ∷ rest))) (omega (arith, used_is, length-take (position_or_len is_line_feed (head ∷ rest)) (head ∷ rest)));
      },
      ap words_of line_is ∙ rw first (word_first (byte ∷ []) (line_from (byte ∷ rest) 1) (omega arith) (rw solid refl) last.behind_blank) ∙ ap (λ (left : List Word). (byte ∷ []) ∷ left) last.words_are,
    )
