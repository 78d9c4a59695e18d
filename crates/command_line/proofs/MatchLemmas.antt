-- What the getters of a parse say of its rows.
use Rattle.std.proofs.Common.{◌≡◌, ◌==◌, ℕ, ◌<◌, ◌≤◌, ◌^◌, Bool, true, false, List, [], ◌∷◌, drop, length, Option, None, Some, Result, Ok, Err, inl, inr, refl, sym, ap, ap₂, subst, ◌∙◌, arith}
use Rattle.std.specs.Prelude.{cond, is_some, option_map, slice_index, unwrap_or, codes, ◌↔◌, Box}
use Rattle.std.specs.Box.{box_value}
use Rattle.std.specs.Str.Parse.{IsNumeral, ParsesBool, ParsesUnsigned, digits_value, without_leading_plus}
use Rattle.std.proofs.lemmas.Bool.{cases_lt, false≢true, ne_eqb}
use Rattle.std.proofs.lemmas.Str.Parse.{digit_from_value}
use Rattle.clap.specs.Words.{App, Row, Text, ReadsOne, is_simple, subcommand_of, subcommand_rows}
use Rattle.clap.specs.declared.parser.matches.SubCommand.{SubCommand}
use Rattle.clap.specs.declared.parser.matches.ArgMatches.TheViews.{out-SubCommand}
use Rattle.clap.proofs.OnLiterals.{clap_on_literals}
use Rattle.dimacs_lines.specs.declared.numbers.TheConstants.{DIGIT_LIMIT}
use Rattle.command_line.specs.Tasks.{IsExtra, IsNoNumber, program}

pub program_is_simple : is_simple program ≡ true
unfolding clap_on_literals
program_is_simple = refl

some_same : {A : Type 0} (x y : A) → Some x ≡ Some y → x ≡ y
some_same x y e = cc

false_text_differs : codes "false" ≡ codes "true" → ⊥
false_text_differs e =
    let five : ◌≡◌ {A = ℕ} 5 4 = ap length e in
    omega arith

-- a flag is set where its text is `true`
pub flag_is : {E : Type 0} (gives : List ℕ → Result Bool E → Type 0) (said : Option Text) (read : Option Bool) (set : Bool)
    → ((text : List ℕ) (r : Result Bool E) → gives text r → ParsesBool text r) → (said ≡ None → read ≡ None)
    → ((text : List ℕ) → said ≡ Some text → ReadsOne gives text read) → set ≡ unwrap_or read false → (set ≡ true) ↔ (said ≡ Some (codes "true"))
flag_is gives None read set says none value e =
    let nothing : read ≡ None = none refl in
    let off : set ≡ false = rw nothing at e in
    (λ on. cc, λ on. cc)
flag_is gives (Some text) None set says none value e =
    let other = value text refl in
    (λ on. cc, λ on. absurd ((says text (Err other.0) other.1).0 (some_same text (codes "true") on)))
flag_is gives (Some text) (Some true) set says none value e = (λ on. ap (λ t. Some t) (says text (Ok true) (value text refl)), λ on. e)
flag_is gives (Some text) (Some false) set says none value e =
    (λ on. cc, λ on. absurd (false_text_differs (sym (says text (Ok false) (value text refl)) ∙ some_same text (codes "true") on)))

drop_none : (word : Text) → drop 0 word ≡ word
drop_none [] = refl
drop_none (byte ∷ word) = refl

unsigned_whole : (word : Text) → (slice_index word 0 == 43) ≡ false → without_leading_plus word ≡ word
unsigned_whole word unsigned = ap (λ b. drop (cond b 1 0) word) unsigned ∙ drop_none word

-- without the option there is room for 1,000 arcs more
pub extra_is_left_out : (said : Option Text) → said ≡ None → IsExtra said 1000
extra_is_left_out None none = refl
extra_is_left_out (Some word) none = absurd cc

-- a word that is read as a number, has no plus before it and is short is a number as in a text
pub extra_is_said : (said : Option Text) (word : Text) (extra : ℕ) → said ≡ Some word → ParsesUnsigned {E = Unit {0}} 32 10 word (Ok extra)
    → false ≡ (slice_index word 0 == 43) → length word ≤ DIGIT_LIMIT → extra ≤ 100000 → IsExtra said extra
extra_is_said None word extra is parses unsigned short below = absurd cc
extra_is_said (Some said) word extra is parses unsigned short below =
    let same = unsigned_whole word (sym unsigned) in
    let numeral : IsNumeral 10 word = rw same at parses.0.0 in
    let value : extra ≡ digits_value 10 word = rw same at parses.1 in
    let says : IsNumeral 10 word × (length word ≤ DIGIT_LIMIT) × (extra ≤ 100000) × (extra ≡ digits_value 10 word) = (numeral, short, below, value) in
    rw (some_same said word is) says

-- a numeral begins with a digit
no_plus : (word : Text) → IsNumeral 10 word → (slice_index word 0 == 43) ≡ false
no_plus [] is = refl
no_plus (byte ∷ word) is = ne_eqb byte 43 (λ e. omega (arith, digit_from_value byte is.1.0))

-- what is refused is no number as in a text
module _ (word : Text) where
  pub none_unread : (IsNumeral 10 (without_leading_plus word) × (digits_value 10 (without_leading_plus word) < 2 ^ 32) → ⊥) → IsNoNumber word
  none_unread unread = elim (cases_lt 100000 (digits_value 10 word)) [
    | inl above ↦ inr (inr above)
    | inr below ↦ inl (λ is.
        let same = unsigned_whole word (no_plus word is) in
        let small : digits_value 10 word < 2 ^ 32 = omega (arith, below) in
        unread (rw same is, rw same small))
  ]

  pub none_signed : true ≡ (slice_index word 0 == 43) → IsNoNumber word
  none_signed signed = inl (λ is. false≢true (sym (no_plus word is) ∙ sym signed))

  pub none_above : (read : ℕ) → false ≡ (slice_index word 0 == 43) → read ≡ digits_value 10 (without_leading_plus word) → 100000 < read → IsNoNumber word
  none_above read unsigned value above =
      let value' : read ≡ digits_value 10 word = rw (unsigned_whole word (sym unsigned)) at value in
      inr (inr (subst (λ (n : ℕ). 100000 < n) value' above))

-- the subcommand that was used, by its name and its rows
module _ {Z : Type 0} where
  pub used_is : (used : Option (Box SubCommand Z)) (name : Text) (rows : List Row) → Some name ≡ option_map (λ b. (out-SubCommand (box_value b)).name.now) used
      → Some rows ≡ option_map (λ p. p.1) (subcommand_rows used) → subcommand_rows used ≡ Some (name, rows)
  used_is None name rows named has = cc
  used_is (Some b) name rows named has = ap₂ (λ n r. Some (n, r)) (sym (some_same _ _ named)) (sym (some_same _ _ has))

  -- and so of the program, whose matches are those of the words
  pub used_in : (app : App) (words : List Text) (used : Option (Box SubCommand Z)) (name want : Text) (rows : List Row) → app ≡ program
      → subcommand_rows used ≡ subcommand_of app words → Some name ≡ option_map (λ b. (out-SubCommand (box_value b)).name.now) used
      → Some rows ≡ option_map (λ p. p.1) (subcommand_rows used) → name ≡ want → subcommand_of program words ≡ Some (want, rows)
  used_in app words used name want rows same whole named has is =
      ap (λ a. subcommand_of a words) (sym same) ∙ sym whole ∙ used_is used name rows named has ∙ ap (λ n. Some (n, rows)) is

  -- and where none was, the program has none
  pub none_used : (app : App) (words : List Text) (used : Option (Box SubCommand Z)) → app ≡ program
      → subcommand_rows used ≡ subcommand_of app words → None ≡ option_map (λ p. p.1) (subcommand_rows used) → subcommand_of program words ≡ None
  none_used app words used same whole none = ap (λ a. subcommand_of a words) (sym same) ∙ sym whole ∙ none_of (subcommand_rows used) none
    where
      none_of : (o : Option (Text × List Row)) → None ≡ option_map (λ p. p.1) o → o ≡ None
      none_of None e = refl
      none_of (Some p) e = absurd cc

pub none_is_given : (said : Option Text) → said ≡ None → is_some said ≡ true → ⊥
none_is_given None none given = false≢true given
none_is_given (Some text) none given = absurd cc
