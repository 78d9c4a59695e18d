-- Words in which `clap` finds no fault name a command of the program, with the files that it needs.
use Rattle.std.proofs.Common.{◌≡◌, ◌∙◌, ◌&&◌, ◌||◌, ◌⊎◌, ℕ, Bool, true, false, not, sym, refl, ap, subst, inl, inr, codes, List, [], ◌∷◌, Option, Some, None, is_some, IfSome, option_map, cond, slice_index, true≢false, arith}
use Rattle.std.specs.List.{find, fold, list_all, list_any}
use Rattle.std.specs.Option.{option_map_or}
use Rattle.std.specs.Str.{bytes_eq}
use Rattle.std.proofs.lemmas.Slice.Eq.{bytes_eq-Decides}
use Rattle.clap.specs.Faults.{built_fault, check_fault, entered_fault, fault_of, is_simple_and_free, level_fault, other_fault, turn_fault, walk_fault, word_fault}
use Rattle.clap.specs.Kinds.{Kinds, check_kinds, or_else}
use Rattle.clap.specs.Lexer.{long_of, short_of}
use Rattle.clap.specs.Simple.{App, Shape, argument_words, built, entered, label_of, names_of, rows_at}
use Rattle.clap.specs.Takes.{is_given}
use Rattle.clap.specs.Walk.{Held, Names, Outcome, Row, Rule, Step, Text, Waiting, Walk, after_flag, after_step, answers_to, arg_by_index, done, first_of, idle, long_or_other, next, nothing_held, option, plain, plain_word, positional, refused, rows_after, short_or_plain, stop_after, subcommand, subcommand_met, subcommand_or_other, to_positional, trailing, value, waits, walk_from, walked, walked_from, word_met}
use Rattle.clap.specs.declared.error.kind.ErrorKind.TheVariants.{DisplayHelp, InvalidSubcommand}
use Rattle.clap.proofs.OnLiterals.{clap_on_literals}
use Rattle.clap.proofs.WalkLemmas.{both}
use Rattle.command_line.specs.Tasks.{command_of, program}
use Rattle.command_line.proofs.RowLemmas.{found_both, given_has_first, is_no_option}

pub program_is_free : is_simple_and_free program ≡ true
unfolding clap_on_literals
program_is_free = refl

either : (a b : Bool) → (a || b) ≡ true → (a ≡ true) ⊎ (b ≡ true)
either true b e = inl refl
either false b e = inr e

neither : (a b : Bool) → (a || b) ≡ false → (a ≡ false) × (b ≡ false)
neither true b e = absurd (true≢false e)
neither false b e = (refl, e)

-- ---- where no step fails, each passes

none_of_both : (a b : Kinds) → or_else a b ≡ [] → (a ≡ []) × (b ≡ [])
none_of_both [] b e = (refl, e)
none_of_both (k ∷ ks) b e = absurd cc

none_checked : (help command argument : Bool) → check_kinds help command argument ≡ [] → (command ≡ false) × (argument ≡ false)
none_checked true command argument e = absurd cc
none_checked false true argument e = absurd cc
none_checked false false true e = absurd cc
none_checked false false false e = (refl, refl)

level_passes : (s : Shape) (names : Names) (words : List Text) (has : Bool) (below : Kinds) → level_fault s names nothing_held words has below ≡ []
    → (walk_fault s names (walk_from nothing_held) words ≡ []) × (below ≡ []) × (check_fault s (rows_after s.rules names words) has ≡ [])
level_passes s names words has below e =
    let walk_first = none_of_both (walk_fault s names (walk_from nothing_held) words) _ e in
    let then_below = none_of_both below _ walk_first.1 in
    let then_settled = none_of_both _ _ then_below.1 in
    let then_defaults = none_of_both _ _ then_settled.1 in
    (walk_first.0, then_below.0, then_defaults.1)

-- ---- the walk stops at no call for help

abbrev is_other : Text → Bool
is_other name = not (bytes_eq name (codes "help"))

abbrev stops_at_other : Option (Text × List Text) → Bool
stops_at_other None = true
stops_at_other (Some p) = is_other p.0

abbrev steps_to_other : Step → Bool
steps_to_other (subcommand name) = is_other name
steps_to_other _ = true

plain_steps : (c : List Rule) (waiting : Waiting) (word : Text) (h : Held) → steps_to_other (plain_word c waiting word h).1 ≡ true
plain_steps c idle word h = refl
plain_steps c positional word h = refl
plain_steps c (option at) word h = refl

flag_steps : (c : List Rule) (waiting : Waiting) (word : Text) (h : Held) (o : Outcome) → steps_to_other (after_flag c waiting word h o).1 ≡ true
flag_steps c waiting word h done = refl
flag_steps c waiting word h (waits at) = refl
flag_steps c waiting word h plain = plain_steps c waiting word h
flag_steps c waiting word h refused = plain_steps c waiting word h

short_steps : (c : List Rule) (waiting : Waiting) (word : Text) (flags : Option Text) (h : Held) → steps_to_other (short_or_plain c waiting word flags h).1 ≡ true
short_steps c waiting word None h = plain_steps c waiting word h
short_steps c waiting word (Some flags) h = flag_steps c waiting word _ _

long_steps : (c : List Rule) (waiting : Waiting) (word : Text) (name : Option (Text × Option Text)) (h : Held) → steps_to_other (long_or_other c waiting word name h).1 ≡ true
long_steps c waiting word None h = short_steps c waiting word (short_of word) h
long_steps c waiting word (Some p) h = flag_steps c waiting word _ _

other_steps : (s : Shape) (met : Option Text) (waiting : Waiting) (position : ℕ) (word : Text) (h : Held) → s.disable_help_subcommand ≡ false → other_fault s met word h ≡ []
    → steps_to_other (subcommand_or_other s.rules met waiting position word h).1 ≡ true
other_steps s None waiting position word h enabled none = go (bytes_eq word (45 ∷ 45 ∷ []))
  where
    go : (b : Bool) → steps_to_other (cond b (h, trailing position) (long_or_other s.rules waiting word (long_of word) h)).1 ≡ true
    go true = refl
    go false = long_steps s.rules waiting word (long_of word) h
other_steps s (Some name) waiting position word h enabled none = go (bytes_eq name (codes "help")) s.disable_help_subcommand enabled none
  where
    go : (help disabled : Bool) → disabled ≡ false → cond (help && not disabled) (DisplayHelp ∷ InvalidSubcommand ∷ []) [] ≡ [] → not help ≡ true
    go false disabled off e = refl
    go true true off e = absurd (true≢false off)
    go true false off e = absurd cc

word_steps : (s : Shape) (names : Names) (is_trailing : Bool) (waiting : Waiting) (position : ℕ) (word : Text) (h : Held) → s.disable_help_subcommand ≡ false
    → word_fault s names is_trailing waiting word h ≡ [] → steps_to_other (word_met s.rules names is_trailing waiting position word h).1 ≡ true
word_steps s names true waiting position word h enabled none = refl
word_steps s names false waiting position word h enabled none = other_steps s (subcommand_met names waiting word) waiting position word h enabled none

step_stops : (c : List Rule) (word : Text) (w : Walk) (h : Held) (step : Step) → stops_at_other w.stopped ≡ true → steps_to_other step ≡ true
    → stops_at_other (after_step c word w h step).stopped ≡ true
step_stops c word w h (next waiting) e to = e
step_stops c word w h (trailing position) e to = e
step_stops c word w h (subcommand name) e to = to
step_stops c word w h value e to = go (arg_by_index c w.position)
  where
    go : (found : Option Rule) → stops_at_other (to_positional c found word w h).stopped ≡ true
    go None = e
    go (Some a) = refl

turn_stops : (s : Shape) (names : Names) (stop : Option (Text × List Text)) (w : Walk) (word : Text) → s.disable_help_subcommand ≡ false → stops_at_other stop ≡ true
    → stops_at_other w.stopped ≡ true → turn_fault s names (record w { stopped = stop }) word ≡ [] → stops_at_other (walked_from s.rules names stop w word).stopped ≡ true
turn_stops s names (Some p) w word enabled at e none = at
turn_stops s names None w word enabled at e none =
    let met = word_met s.rules names w.is_trailing w.waiting w.position word w.held in
    step_stops s.rules word w met.0 met.1 e
    (word_steps s names w.is_trailing w.waiting w.position word w.held enabled (none_of_both (word_fault s names w.is_trailing w.waiting word w.held) _ none).0)

walked_stops : (s : Shape) (names : Names) (w : Walk) (word : Text) → s.disable_help_subcommand ≡ false → stops_at_other w.stopped ≡ true → turn_fault s names w word ≡ []
    → stops_at_other (walked s.rules names w word).stopped ≡ true
unfolding walked
walked_stops s names w word enabled e none = turn_stops s names w.stopped w word enabled e e none

walk_stops : (s : Shape) (names : Names) (w : Walk) (words : List Text) → s.disable_help_subcommand ≡ false → stops_at_other w.stopped ≡ true → walk_fault s names w words ≡ []
    → stops_at_other (fold (walked s.rules names) w words).stopped ≡ true
unfolding walk_fault
walk_stops s names w [] enabled e none = e
walk_stops s names w (word ∷ rest) enabled e none =
    let parts = none_of_both (turn_fault s names w word) _ none in
    walk_stops s names (walked s.rules names w word) rest enabled (walked_stops s names w word enabled e parts.0) parts.1

-- ---- what is required is there

-- the argument `id` is required, and no option is it
abbrev asks : Text → Shape → Bool
asks id s = is_no_option id s.rules && list_any (λ a. a.required && bytes_eq a.id id) s.rules

given_if_required : (required given : Bool) → required ≡ true → (required && not given) ≡ false → given ≡ true
given_if_required true true is none = refl
given_if_required true false is none = absurd (true≢false none)
given_if_required false given is none = absurd (true≢false (sym is))

required_given : (id : Text) (rows : List Row) (rules : List Rule) → list_any (λ a. a.required && bytes_eq a.id id) rules ≡ true
    → list_any (λ a. a.required && not (is_given a.id rows)) rules ≡ false → is_given id rows ≡ true
required_given id rows [] asked none = absurd (true≢false (sym asked))
required_given id rows (a ∷ rest) asked none = elim (either (a.required && bytes_eq a.id id) _ asked) [
  | inl here ↦
      let parts = both a.required _ here in
      subst (λ (t : Text). is_given t rows ≡ true) ((bytes_eq-Decides a.id id).0 parts.1) (given_if_required a.required (is_given a.id rows) parts.0 (neither _ _ none).0)
  | inr later ↦ required_given id rows rest later (neither _ _ none).1
]

right_of_none : (negates missing : Bool) → (not (negates && false) && missing) ≡ false → missing ≡ false
right_of_none true missing e = e
right_of_none false missing e = e

asked_is_there : (id : Text) (s : Shape) (words : List Text) → asks id s ≡ true → check_fault s (rows_after s.rules [] words) false ≡ []
    → is_some (first_of id (rows_after s.rules [] words)) ≡ true
asked_is_there id s words asked none =
    let parts = both (is_no_option id s.rules) _ asked in
    let rows = rows_after s.rules [] words in
    let given = required_given id rows s.rules parts.1 (right_of_none s.subcommand_negates_reqs _ (none_checked _ _ _ none).1) in
    given_has_first id s.rules [] words parts.0 given

-- ---- the commands

-- the name and the matches are those of a command of the program, with the files that it needs
abbrev pub IsCommand : Option (Text × List Row) → Type 0
IsCommand used = ((rows : List Row) × (used ≡ Some (codes "solve", rows)))
    ⊎ ((rows : List Row) × (used ≡ Some (codes "session", rows)) × (is_some (first_of (codes "problem") rows) ≡ true))
    ⊎ ((rows : List Row) × (used ≡ Some (codes "check", rows)) × (is_some (first_of (codes "problem") rows) ≡ true) × (is_some (first_of (codes "answer") rows) ≡ true))

abbrev is_nil : List Text → Bool
is_nil [] = true
is_nil (x ∷ xs) = false

abbrev is_help : Shape → Bool
is_help s = bytes_eq s.name (codes "help") && is_nil s.aliases

abbrev is_known : Shape → Bool
is_known s = is_help s || (bytes_eq s.name (codes "solve") || ((bytes_eq s.name (codes "session") && asks (codes "problem") s)
    || (bytes_eq s.name (codes "check") && (asks (codes "problem") s && asks (codes "answer") s))))

-- a call for help is one of that name
help_is_named : (s : Shape) (name : Text) → is_help s ≡ true → answers_to name (label_of s) ≡ true → is_other name ≡ true → ⊥
help_is_named s name help answers other =
    let parts = both (bytes_eq s.name (codes "help")) _ help in
    let named : bytes_eq s.name name ≡ true = no_alias (bytes_eq s.name name) s.aliases parts.1 answers in
    let same = (bytes_eq-Decides s.name name).0 named in
    let is = subst (λ (t : Text). bytes_eq t (codes "help") ≡ true) same parts.0 in
    true≢false (sym other ∙ ap not is)
  where
    no_alias : (b : Bool) (aliases : List Text) → is_nil aliases ≡ true → (b || list_any (λ alias. bytes_eq alias name) aliases) ≡ true → b ≡ true
    no_alias true aliases none e = refl
    no_alias false [] none e = e
    no_alias false (x ∷ xs) none e = absurd (true≢false (sym none))

known_command : (s : Shape) (words : List Text) → (is_help s ≡ true → ⊥) → is_known s ≡ true → check_fault s (rows_after s.rules [] words) false ≡ []
    → IsCommand (Some (rows_at s words))
known_command s words other known none = elim (either (is_help s) _ known) [
  | inl help ↦ absurd (other help)
  | inr rest ↦ elim (either (bytes_eq s.name (codes "solve")) _ rest) [
    | inl solve ↦ inl (rows_after s.rules [] words, named (codes "solve") solve)
    | inr more ↦ elim (either (bytes_eq s.name (codes "session") && asks (codes "problem") s) _ more) [
      | inl session ↦
          let parts = both (bytes_eq s.name (codes "session")) _ session in
          inr (inl (rows_after s.rules [] words, named (codes "session") parts.0, asked_is_there (codes "problem") s words parts.1 none))
      | inr check ↦
          let parts = both (bytes_eq s.name (codes "check")) _ check in
          let files = both (asks (codes "problem") s) _ parts.1 in
          inr (inr (rows_after s.rules [] words, named (codes "check") parts.0, asked_is_there (codes "problem") s words files.0 none, asked_is_there (codes "answer") s words files.1 none))
    ]
  ]
]
  where
    named : (name : Text) → bytes_eq s.name name ≡ true → Some (rows_at s words) ≡ Some (name, rows_after s.rules [] words)
    named name same = ap (λ (t : Text). Some (t, rows_after s.rules [] words)) ((bytes_eq-Decides s.name name).0 same)

found_command : (p : Text × List Text) (found : Option Shape) → is_other p.0 ≡ true → IfSome found (λ s. (answers_to p.0 (label_of s) ≡ true) × (is_known s ≡ true))
    → is_some (option_map (λ s. rows_at s p.1) found) ≡ true → option_map_or (λ s. level_fault s [] nothing_held p.1 false []) found [] ≡ []
    → IsCommand (option_map (λ s. rows_at s p.1) found)
found_command p None other is some none = absurd (true≢false (sym some))
found_command p (Some s) other is some none =
    known_command s p.1 (λ help. help_is_named s p.0 help is.0 other) is.1 (level_passes s [] p.1 false [] none).2

module _ (a : App) (known : list_all is_known a.subs ≡ true) where
  entered_command : (stop : Option (Text × List Text)) → stops_at_other stop ≡ true → is_some (entered a stop) ≡ true → entered_fault a stop ≡ [] → IsCommand (entered a stop)
  entered_command None other some none = absurd (true≢false (sym some))
  entered_command (Some p) other some none =
      found_command p (find (λ s. answers_to p.0 (label_of s)) a.subs) other (found_both (λ s. answers_to p.0 (label_of s)) is_known a.subs known) some none

  built_command : (words : List Text) → a.top.disable_help_subcommand ≡ false → a.top.subcommand_required ≡ true → built_fault a nothing_held words ≡ []
      → IsCommand (entered a (stop_after a.top.rules (names_of a) words))
  built_command words enabled required none =
      let stop = stop_after a.top.rules (names_of a) words in
      let level = level_passes a.top (names_of a) words (is_some (entered a stop)) (entered_fault a stop) none in
      let some = wanted (is_some (entered a stop)) a.top.subcommand_required required (none_checked _ _ _ level.2).0 in
      entered_command stop (walk_stops a.top (names_of a) (walk_from nothing_held) words enabled refl level.0) some level.1
    where
      wanted : (has needs : Bool) → needs ≡ true → (not has && needs) ≡ false → has ≡ true
      wanted true needs is e = refl
      wanted false needs is e = absurd (true≢false (sym is ∙ e))

all_known : list_all is_known (built program).subs ≡ true
unfolding clap_on_literals
all_known = refl

help_enabled : (built program).top.disable_help_subcommand ≡ false
unfolding clap_on_literals
help_enabled = refl

command_required : (built program).top.subcommand_required ≡ true
unfolding clap_on_literals
command_required = refl

pub taken_command : (words : List Text) → fault_of program words ≡ [] → IsCommand (command_of words)
taken_command words none = built_command (built program) all_known (argument_words program words) help_enabled command_required none

-- ---- the commands apart

same_pair : (a b : Text × List Row) → Some a ≡ Some b → a ≡ b
same_pair a b e = cc

same_name : (name other : Text) (rows more : List Row) → ◌≡◌ {A = Option (Text × List Row)} (Some (name, rows)) (Some (other, more)) → name ≡ other
same_name name other rows more e = ap (λ (p : Text × List Row). p.0) (same_pair (name, rows) (other, more) e)

same_rows : (name other : Text) (rows more : List Row) → ◌≡◌ {A = Option (Text × List Row)} (Some (name, rows)) (Some (other, more)) → rows ≡ more
same_rows name other rows more e = ap (λ (p : Text × List Row). p.1) (same_pair (name, rows) (other, more) e)

session_or_solve : codes "session" ≡ codes "solve" → ⊥
session_or_solve e =
    let letter : ◌≡◌ {A = ℕ} 101 111 = ap (λ (t : Text). slice_index t 1) e in
    omega arith

check_or_solve : codes "check" ≡ codes "solve" → ⊥
check_or_solve e =
    let letter : ◌≡◌ {A = ℕ} 104 111 = ap (λ (t : Text). slice_index t 1) e in
    omega arith

session_or_check : codes "session" ≡ codes "check" → ⊥
session_or_check e =
    let letter : ◌≡◌ {A = ℕ} 101 104 = ap (λ (t : Text). slice_index t 1) e in
    omega arith

-- words that clap takes name a command, and no other one
pub none_is_no_command : (words : List Text) → fault_of program words ≡ [] → command_of words ≡ None → ⊥
none_is_no_command words taken none = elim (taken_command words taken) [
  | inl solve ↦ let bad = sym none ∙ solve.1 in cc
  | inr (inl session) ↦ let bad = sym none ∙ session.1 in cc
  | inr (inr check) ↦ let bad = sym none ∙ check.1 in cc
]

module _ (words : List Text) (rows : List Row) (taken : fault_of program words ≡ []) where
  pub other_is_no_command : (name : Text) → command_of words ≡ Some (name, rows) → (name ≡ codes "solve" → ⊥) → (name ≡ codes "session" → ⊥) → (name ≡ codes "check" → ⊥) → ⊥
  other_is_no_command name same solve session check = elim (taken_command words taken) [
    | inl used ↦ solve (same_name name _ rows used.0 (sym same ∙ used.1))
    | inr (inl used) ↦ session (same_name name _ rows used.0 (sym same ∙ used.1))
    | inr (inr used) ↦ check (same_name name _ rows used.0 (sym same ∙ used.1))
  ]

  -- with the files that it needs
  pub session_has_problem : command_of words ≡ Some (codes "session", rows) → is_some (first_of (codes "problem") rows) ≡ true
  session_has_problem same = elim (taken_command words taken) [
    | inl used ↦ absurd (session_or_solve (same_name _ _ rows used.0 (sym same ∙ used.1)))
    | inr (inl used) ↦ ap (λ (rs : List Row). is_some (first_of (codes "problem") rs)) (same_rows (codes "session") _ rows used.0 (sym same ∙ used.1)) ∙ used.2
    | inr (inr used) ↦ absurd (session_or_check (same_name _ _ rows used.0 (sym same ∙ used.1)))
  ]

  pub check_has_files : command_of words ≡ Some (codes "check", rows) → (is_some (first_of (codes "problem") rows) ≡ true) × (is_some (first_of (codes "answer") rows) ≡ true)
  check_has_files same = elim (taken_command words taken) [
    | inl used ↦ absurd (check_or_solve (same_name _ _ rows used.0 (sym same ∙ used.1)))
    | inr (inl used) ↦ absurd (session_or_check (sym (same_name _ _ rows used.0 (sym same ∙ used.1))))
    | inr (inr used) ↦
        let here : rows ≡ used.0 = same_rows (codes "check") _ rows used.0 (sym same ∙ used.1) in (
          ap (λ (rs : List Row). is_some (first_of (codes "problem") rs)) here ∙ used.2,
          ap (λ (rs : List Row). is_some (first_of (codes "answer") rs)) here ∙ used.3,
        )
  ]
