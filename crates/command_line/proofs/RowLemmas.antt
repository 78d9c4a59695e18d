-- Whatever the words, an argument that no option names has a value in each of its rows.
use Rattle.std.proofs.Common.{◌≡◌, ◌∙◌, ◌+◌, ◌&&◌, ◌||◌, min, ℕ, Bool, cond, true, false, not, zero, suc, sym, refl, ap, ap₂, subst, List, [], ◌∷◌, ◌++◌, length, drop, Option, Some, None, is_some, IfSome, true≢false}
use Rattle.std.specs.Prelude.{encode_utf8, slice_get, option_and_then}
use Rattle.std.specs.List.{find, fold, list_all}
use Rattle.std.specs.Option.{option_map_or}
use Rattle.std.specs.Str.{bytes_eq, chars}
use Rattle.std.proofs.lemmas.List.Folds.{list_all-append}
use Rattle.std.proofs.lemmas.Slice.Eq.{bytes_eq-Decides}
use Rattle.clap.specs.Facts.{explicit_source}
use Rattle.clap.specs.Lexer.{long_of, short_of}
use Rattle.clap.specs.Matches.{count_text}
use Rattle.clap.specs.Takes.{is_given}
use Rattle.clap.specs.Walk.{Held, Names, Outcome, Row, Rule, Step, Text, Waiting, Walk, action_of, after_flag, after_step, arg_by_id, arg_by_index, arg_by_long, arg_by_short, at_row, attached_value, bundle_met, bundle_step, count_of, counted, default_rows, done, first_of, flag_met, has_long, has_row, has_short, idle, is_pending, long_met, long_or_other, more_values, new_count, next, nothing_held, option, option_met, option_word, plain, plain_word, positional, pushed, reacted, reading_by, refused, rows_after, settled, settled_rows, short_met, short_or_plain, started, subcommand, subcommand_met, subcommand_or_other, takes_several, takes_values, to_positional, trailing, used, used_as, used_by_id, value, values_or_missing, waits, walk, walk_from, walked, walked_from, with_count, with_default, with_values, without, word_met}
use Rattle.clap.specs.declared.builder.ArgAction.TheVariants as action
use Rattle.clap.specs.declared.builder.ArgAction.{ArgAction}
use Rattle.clap.specs.declared.builder.value_parser.Reading.{Reading}
use Rattle.clap.specs.declared.parser.matches.ValueSource.{ValueSource}
use Rattle.clap.specs.declared.parser.matches.ValueSource.TheVariants.{CommandLine, DefaultValue}
use Rattle.clap.proofs.WalkLemmas.{both}

abbrev is_filled : List Text → Bool
is_filled [] = false
is_filled (v ∷ vs) = true

-- the values, if they are those of the argument `id`, are one at least
abbrev has_value : Text → Text → List Text → Bool
has_value id at values = not (bytes_eq at id) || is_filled values

abbrev all_have : Text → List Row → Bool
all_have id = list_all (λ r. has_value id r.id r.values)

abbrev pending_has : Text → Option (Text × List Text) → Bool
pending_has id None = true
pending_has id (Some p) = has_value id p.0 p.1

abbrev held_has : Text → Held → Bool
held_has id h = all_have id h.rows && pending_has id h.pending

-- no option or flag is the argument `id`
abbrev pub is_no_option : Text → List Rule → Bool
is_no_option id = list_all (λ a. is_some a.index || has_value id a.id [])

-- ---- tests

joined : (a b : Bool) → a ≡ true → b ≡ true → (a && b) ≡ true
joined a b p q = ap₂ (λ x y. x && y) p q

or_true : (a : Bool) → (a || true) ≡ true
or_true true = refl
or_true false = refl

or_none : (a b : Bool) → (a || false) ≡ true → (a || b) ≡ true
or_none true b e = refl
or_none false b e = absurd (true≢false (sym e))

past : (a b : Bool) → not a ≡ true → (a || b) ≡ true → b ≡ true
past true b off e = absurd (true≢false (sym off))
past false b off e = e

more_filled : (same : Bool) (vs more : List Text) → (not same || is_filled vs) ≡ true → (not same || is_filled (vs ++ more)) ≡ true
more_filled false vs more e = refl
more_filled true [] more e = absurd (true≢false (sym e))
more_filled true (v ∷ vs) more e = refl

pushed_filled : (vs : List Text) (word : Text) → is_filled (vs ++ word ∷ []) ≡ true
pushed_filled [] word = refl
pushed_filled (v ∷ vs) word = refl

pub found_both : {X : Type 0} (p q : X → Bool) (xs : List X) → list_all q xs ≡ true → IfSome (find p xs) (λ x. (p x ≡ true) × (q x ≡ true))
found_both p q [] e = tt
found_both p q (x ∷ xs) e = go (p x) refl (found_both p q xs (both (q x) _ e).1)
  where
    go : (b : Bool) → p x ≡ b → IfSome (find p xs) (λ y. (p y ≡ true) × (q y ≡ true)) → IfSome (cond b (Some x) (find p xs)) (λ y. (p y ≡ true) × (q y ≡ true))
    go true hit rest = (hit, (both (q x) _ e).0)
    go false hit rest = rest

found_passes : (p : Rule → Bool) (xs : List Rule) → IfSome (find p xs) (λ a. p a ≡ true)
found_passes p [] = tt
found_passes p (x ∷ xs) = go (p x) refl (found_passes p xs)
  where
    go : (b : Bool) → p x ≡ b → IfSome (find p xs) (λ a. p a ≡ true) → IfSome (cond b (Some x) (find p xs)) (λ a. p a ≡ true)
    go true hit rest = hit
    go false hit rest = rest

-- ---- rows

at_row_keeps : (id : Text) (p : Row → Bool) (change : Row → List Row) (missing rows : List Row) → ((r : Row) → p r ≡ true → list_all p (change r) ≡ true)
    → list_all p missing ≡ true → list_all p rows ≡ true → list_all p (at_row id change missing rows) ≡ true
at_row_keeps id p change missing [] changes new e = new
at_row_keeps id p change missing (r ∷ rs) changes new e = go (bytes_eq r.id id) (at_row_keeps id p change missing rs changes new (both _ _ e).1)
  where
    go : (b : Bool) → list_all p (at_row id change missing rs) ≡ true → list_all p (cond b (change r ++ rs) (r ∷ at_row id change missing rs)) ≡ true
    go true rest = list_all-append p (change r) rs ∙ joined _ _ (changes r (both (p r) _ e).0) (both (p r) _ e).1
    go false rest = joined _ _ (both (p r) _ e).0 rest

module _ (id : Text) where
  with_values_keeps : (at : Text) (how : Reading) (s : ValueSource) (values : List Text) (rows : List Row) → has_value id at values ≡ true → all_have id rows ≡ true
      → all_have id (with_values at how s values rows) ≡ true
  with_values_keeps at how s values rows new e =
      at_row_keeps at (λ r. has_value id r.id r.values) (more_values s values) _ rows
      (λ r had. joined _ _ (more_filled (bytes_eq r.id id) r.values values had) refl) (joined _ _ new refl) e

  with_count_keeps : (at : Text) (how : Reading) (s : ValueSource) (n : ℕ) (rows : List Row) → all_have id rows ≡ true → all_have id (with_count at how s n rows) ≡ true
  with_count_keeps at how s n rows e =
      at_row_keeps at (λ r. has_value id r.id r.values) (new_count s n) _ rows
      (λ r had. joined _ _ (more_filled (bytes_eq r.id id) r.values (count_text n ∷ []) had) refl) (joined _ _ (or_true (not (bytes_eq at id))) refl) e

  without_keeps : (at : Text) (rows : List Row) → all_have id rows ≡ true → all_have id (without at rows) ≡ true
  without_keeps at rows e = at_row_keeps at (λ r. has_value id r.id r.values) (λ _. []) [] rows (λ r had. refl) refl e

  counted_keeps : (at : Text) (how : Reading) (values : List Text) (rows : List Row) → all_have id rows ≡ true → all_have id (counted at how values rows) ≡ true
  counted_keeps at how [] rows e = with_count_keeps at how CommandLine (min (count_of at rows + 1) 255) (without at rows) (without_keeps at rows e)
  counted_keeps at how (v ∷ vs) rows e = with_values_keeps at how CommandLine (v ∷ vs) (without at rows) (or_true (not (bytes_eq at id))) (without_keeps at rows e)

  -- ---- one use of an argument

  used_as_keeps : (x : ArgAction) (at : Text) (how : Reading) (values : List Text) (rows : List Row) → has_value id at values ≡ true → all_have id rows ≡ true
      → all_have id (used_as x at how values rows) ≡ true
  used_as_keeps action.Set at how values rows new e = with_values_keeps at how CommandLine values (without at rows) new (without_keeps at rows e)
  used_as_keeps action.SetTrue at how values rows new e = with_values_keeps at how CommandLine values (without at rows) new (without_keeps at rows e)
  used_as_keeps action.SetFalse at how values rows new e = with_values_keeps at how CommandLine values (without at rows) new (without_keeps at rows e)
  used_as_keeps action.Append at how values rows new e = with_values_keeps at how CommandLine values rows new e
  used_as_keeps action.Count at how values rows new e = counted_keeps at how values rows e
  used_as_keeps action.Help at how values rows new e = e
  used_as_keeps action.HelpShort at how values rows new e = e
  used_as_keeps action.HelpLong at how values rows new e = e
  used_as_keeps action.Version at how values rows new e = e

  or_missing : (a : Rule) (values : List Text) → has_value id a.id values ≡ true → has_value id a.id (values_or_missing a values) ≡ true
  or_missing a [] e = or_none (not (bytes_eq a.id id)) (is_filled a.missing) e
  or_missing a (v ∷ vs) e = e

  used_keeps : (a : Rule) (values : List Text) (rows : List Row) → has_value id a.id values ≡ true → all_have id rows ≡ true → all_have id (used a values rows) ≡ true
  used_keeps a values rows new e = used_as_keeps (action_of a) a.id (reading_by a) (values_or_missing a values) rows (or_missing a values new) e

  -- ---- what is held between two words

  used_by_id_keeps : (found : Option Rule) (at : Text) (values : List Text) (rows : List Row) → IfSome found (λ a. bytes_eq a.id at ≡ true) → has_value id at values ≡ true
      → all_have id rows ≡ true → all_have id (used_by_id found values rows) ≡ true
  used_by_id_keeps None at values rows named new e = e
  used_by_id_keeps (Some a) at values rows named new e =
      used_keeps a values rows (subst (λ (t : Text). has_value id t values ≡ true) (sym ((bytes_eq-Decides a.id at).0 named)) new) e

  settled_rows_keeps : (c : List Rule) (p : Option (Text × List Text)) (rows : List Row) → all_have id rows ≡ true → pending_has id p ≡ true → all_have id (settled_rows c p rows) ≡ true
  settled_rows_keeps c None rows e has = e
  settled_rows_keeps c (Some p) rows e has = used_by_id_keeps (arg_by_id c p.0) p.0 p.1 rows (found_passes (λ a. bytes_eq a.id p.0) c) has e

  settled_keeps : (c : List Rule) (h : Held) → held_has id h ≡ true → all_have id (settled c h).rows ≡ true
  settled_keeps c h e = settled_rows_keeps c h.pending h.rows (both (all_have id h.rows) _ e).0 (both (all_have id h.rows) _ e).1

  reacted_keeps : (c : List Rule) (a : Rule) (values : List Text) (h : Held) → has_value id a.id values ≡ true → held_has id h ≡ true → held_has id (reacted c a values h) ≡ true
  reacted_keeps c a values h new e = joined _ _ (used_keeps a values (settled c h).rows new (settled_keeps c h e)) refl

  pushed_keeps : (at word : Text) (h : Held) → all_have id h.rows ≡ true → held_has id (pushed at word h) ≡ true
  pushed_keeps at word h e =
      joined _ _ e (ap (λ b. not (bytes_eq (started at h.pending).0 id) || b) (pushed_filled (started at h.pending).1 word) ∙ or_true _)

  -- ---- flags

  option_met_keeps : (c : List Rule) (a : Rule) (v : Option Text) (h : Held) → has_value id a.id [] ≡ true → held_has id h ≡ true → held_has id (option_met c a v h).0 ≡ true
  option_met_keeps c a (Some v) h other e = reacted_keeps c a (v ∷ []) h (or_true (not (bytes_eq a.id id))) e
  option_met_keeps c a None h other e = joined _ _ (settled_keeps c h e) other

  flag_met_keeps : (c : List Rule) (a : Rule) (v : Option Text) (h : Held) → has_value id a.id [] ≡ true → held_has id h ≡ true → held_has id (flag_met c a v h).0 ≡ true
  flag_met_keeps c a (Some v) h other e = e
  flag_met_keeps c a None h other e = reacted_keeps c a [] h other e

  long_met_keeps : (c : List Rule) (found : Option Rule) (v : Option Text) (h : Held) → IfSome found (λ a. has_value id a.id [] ≡ true) → held_has id h ≡ true
      → held_has id (long_met c found v h).0 ≡ true
  long_met_keeps c None v h other e = e
  long_met_keeps c (Some a) v h other e = go (takes_values a)
    where
      go : (b : Bool) → held_has id (cond b (option_met c a v h) (flag_met c a v h)).0 ≡ true
      go true = option_met_keeps c a v h other e
      go false = flag_met_keeps c a v h other e

  short_met_keeps : (c : List Rule) (found : Option Rule) (rest : Text) (h : Held) (after : Held → Held × Outcome) → ((g : Held) → held_has id g ≡ true → held_has id (after g).0 ≡ true)
      → IfSome found (λ a. has_value id a.id [] ≡ true) → held_has id h ≡ true → held_has id (short_met c found rest h after).0 ≡ true
  short_met_keeps c None rest h after keeps other e = e
  short_met_keeps c (Some a) rest h after keeps other e = go (takes_values a)
    where
      go : (b : Bool) → held_has id (cond b (option_met c a (attached_value rest) h) (after (reacted c a [] h))).0 ≡ true
      go true = option_met_keeps c a (attached_value rest) h other e
      go false = keeps (reacted c a [] h) (reacted_keeps c a [] h other e)

  -- an option or a flag is another argument
  other_found : (p : Rule → Bool) (c : List Rule) → is_no_option id c ≡ true → IfSome (find (λ a. not (is_some a.index) && p a) c) (λ a. has_value id a.id [] ≡ true)
  other_found p c none = go (find (λ a. not (is_some a.index) && p a) c) (found_both (λ a. not (is_some a.index) && p a) (λ a. is_some a.index || has_value id a.id []) c none)
    where
      go : (o : Option Rule) → IfSome o (λ a. ((not (is_some a.index) && p a) ≡ true) × ((is_some a.index || has_value id a.id []) ≡ true))
          → IfSome o (λ a. has_value id a.id [] ≡ true)
      go None h = tt
      go (Some a) h = past (is_some a.index) _ (both (not (is_some a.index)) _ h.0).0 h.1

  bundle_step_keeps : (c : List Rule) (first : Option ℕ) (flags : Text) (skip : ℕ) (so_far : Outcome) (h : Held) (after : Text → ℕ → Outcome → Held → Held × Outcome) → is_no_option id c ≡ true
      → ((t : Text) (n : ℕ) (o : Outcome) (g : Held) → held_has id g ≡ true → held_has id (after t n o g).0 ≡ true) → held_has id h ≡ true
      → held_has id (bundle_step c first flags skip so_far h after).0 ≡ true
  bundle_step_keeps c None flags skip so_far h after none keeps e = e
  bundle_step_keeps c (Some x) flags zero so_far h after none keeps e =
      let rest = drop (length (encode_utf8 x)) flags in
      short_met_keeps c (arg_by_short c x) rest h (after rest 0 done) (keeps rest 0 done) (other_found (λ a. has_short a x) c none) e
  bundle_step_keeps c (Some x) flags (suc skip) so_far h after none keeps e = keeps _ skip so_far h e

  bundle_keeps : (c : List Rule) (k : ℕ) (flags : Text) (skip : ℕ) (so_far : Outcome) (h : Held) → is_no_option id c ≡ true → held_has id h ≡ true
      → held_has id (bundle_met c k flags skip so_far h).0 ≡ true
  unfolding bundle_met
  bundle_keeps c zero flags skip so_far h none e = e
  bundle_keeps c (suc k) flags skip so_far h none e =
      bundle_step_keeps c (slice_get (chars flags) 0) flags skip so_far h (bundle_met c k) none (λ t n o g had. bundle_keeps c k t n o g none had) e

  -- ---- words

  plain_word_keeps : (c : List Rule) (waiting : Waiting) (word : Text) (h : Held) → held_has id h ≡ true → held_has id (plain_word c waiting word h).0 ≡ true
  plain_word_keeps c idle word h e = e
  plain_word_keeps c positional word h e = e
  plain_word_keeps c (option at) word h e = go (arg_by_id c at)
    where
      go : (found : Option Rule) → held_has id (option_word found at word h).0 ≡ true
      go None = e
      go (Some a) = pushed_keeps at word h (both (all_have id h.rows) _ e).0

  after_flag_keeps : (c : List Rule) (waiting : Waiting) (word : Text) (h : Held) (o : Outcome) → held_has id h ≡ true → held_has id (after_flag c waiting word h o).0 ≡ true
  after_flag_keeps c waiting word h done e = e
  after_flag_keeps c waiting word h (waits at) e = e
  after_flag_keeps c waiting word h plain e = plain_word_keeps c waiting word h e
  after_flag_keeps c waiting word h refused e = plain_word_keeps c waiting word h e

  module _ (c : List Rule) (none : is_no_option id c ≡ true) where
    short_or_plain_keeps : (waiting : Waiting) (word : Text) (flags : Option Text) (h : Held) → held_has id h ≡ true → held_has id (short_or_plain c waiting word flags h).0 ≡ true
    short_or_plain_keeps waiting word None h e = plain_word_keeps c waiting word h e
    short_or_plain_keeps waiting word (Some flags) h e =
        after_flag_keeps c waiting word _ _ (bundle_keeps c (length flags) flags h.skip plain (record h { skip = 0 }) none e)

    long_or_other_keeps : (waiting : Waiting) (word : Text) (name : Option (Text × Option Text)) (h : Held) → held_has id h ≡ true
        → held_has id (long_or_other c waiting word name h).0 ≡ true
    long_or_other_keeps waiting word None h e = short_or_plain_keeps waiting word (short_of word) h e
    long_or_other_keeps waiting word (Some p) h e =
        after_flag_keeps c waiting word _ _ (long_met_keeps c (arg_by_long c p.0) p.1 h (other_found (λ a. has_long a p.0) c none) e)

    subcommand_or_other_keeps : (name : Option Text) (waiting : Waiting) (position : ℕ) (word : Text) (h : Held) → held_has id h ≡ true
        → held_has id (subcommand_or_other c name waiting position word h).0 ≡ true
    subcommand_or_other_keeps (Some name) waiting position word h e = e
    subcommand_or_other_keeps None waiting position word h e = go (bytes_eq word (45 ∷ 45 ∷ []))
      where
        go : (b : Bool) → held_has id (cond b (h, trailing position) (long_or_other c waiting word (long_of word) h)).0 ≡ true
        go true = e
        go false = long_or_other_keeps waiting word (long_of word) h e

    word_met_keeps : (names : Names) (is_trailing : Bool) (waiting : Waiting) (position : ℕ) (word : Text) (h : Held) → held_has id h ≡ true
        → held_has id (word_met c names is_trailing waiting position word h).0 ≡ true
    word_met_keeps names true waiting position word h e = e
    word_met_keeps names false waiting position word h e = subcommand_or_other_keeps (subcommand_met names waiting word) waiting position word h e

    to_positional_keeps : (found : Option Rule) (word : Text) (w : Walk) (h : Held) → held_has id h ≡ true → held_has id (to_positional c found word w h).held ≡ true
    to_positional_keeps None word w h e = e
    to_positional_keeps (Some a) word w h e = pushed_keeps a.id word (cond (is_pending a h.pending && takes_several a) h (settled c h)) (go (is_pending a h.pending && takes_several a))
      where
        go : (b : Bool) → all_have id (cond b h (settled c h)).rows ≡ true
        go true = (both (all_have id h.rows) _ e).0
        go false = settled_keeps c h e

    after_step_keeps : (word : Text) (w : Walk) (h : Held) (step : Step) → held_has id h ≡ true → held_has id (after_step c word w h step).held ≡ true
    after_step_keeps word w h (next waiting) e = e
    after_step_keeps word w h (trailing position) e = e
    after_step_keeps word w h (subcommand name) e = e
    after_step_keeps word w h value e = to_positional_keeps (arg_by_index c w.position) word w h e

    walked_from_keeps : (names : Names) (stop : Option (Text × List Text)) (w : Walk) (word : Text) → held_has id w.held ≡ true → held_has id (walked_from c names stop w word).held ≡ true
    walked_from_keeps names (Some p) w word e = e
    walked_from_keeps names None w word e = after_step_keeps word w _ _ (word_met_keeps names w.is_trailing w.waiting w.position word w.held e)

    walked_keeps : (names : Names) (w : Walk) (word : Text) → held_has id w.held ≡ true → held_has id (walked c names w word).held ≡ true
    unfolding walked
    walked_keeps names w word e = walked_from_keeps names w.stopped w word e

    walk_keeps : (names : Names) (w : Walk) (words : List Text) → held_has id w.held ≡ true → held_has id (fold (walked c names) w words).held ≡ true
    walk_keeps names w [] e = e
    walk_keeps names w (word ∷ rest) e = walk_keeps names (walked c names w word) rest (walked_keeps names w word e)

  -- ---- after the words

  default_keeps : (a : Rule) (values : List Text) (rows : List Row) → all_have id rows ≡ true → all_have id (default_rows a.id (reading_by a) values rows) ≡ true
  default_keeps a [] rows e = e
  default_keeps a (v ∷ vs) rows e = with_values_keeps a.id (reading_by a) DefaultValue (v ∷ vs) rows (or_true (not (bytes_eq a.id id))) e

  with_default_keeps : (rows : List Row) (a : Rule) → all_have id rows ≡ true → all_have id (with_default rows a) ≡ true
  with_default_keeps rows a e = go (has_row a.id rows)
    where
      go : (b : Bool) → all_have id (cond b rows (default_rows a.id (reading_by a) a.defaults rows)) ≡ true
      go true = e
      go false = default_keeps a a.defaults rows e

  defaults_keep : (rows : List Row) (rules : List Rule) → all_have id rows ≡ true → all_have id (fold with_default rows rules) ≡ true
  defaults_keep rows [] e = e
  defaults_keep rows (a ∷ rest) e = defaults_keep (with_default rows a) rest (with_default_keeps rows a e)

  rows_have : (c : List Rule) (names : Names) (words : List Text) → is_no_option id c ≡ true → all_have id (rows_after c names words) ≡ true
  rows_have c names words none =
      let end = (walk c names nothing_held words).held in
      defaults_keep (settled c end).rows c (settled_keeps c end (walk_keeps c none names (walk_from nothing_held) words refl))

  first_there : (values : List Text) → is_filled values ≡ true → is_some (slice_get values 0) ≡ true
  first_there [] e = absurd (true≢false (sym e))
  first_there (v ∷ vs) e = refl

  given_first : (rows : List Row) → all_have id rows ≡ true → is_given id rows ≡ true → is_some (first_of id rows) ≡ true
  given_first [] e given = absurd (true≢false (sym given))
  given_first (r ∷ rs) e given = go (bytes_eq r.id id) refl given (given_first rs (both (has_value id r.id r.values) _ e).1)
    where
      go : (b : Bool) → bytes_eq r.id id ≡ b → option_map_or (λ (x : Row). explicit_source x.source) (cond b (Some r) (find (λ x. bytes_eq x.id id) rs)) false ≡ true
          → (is_given id rs ≡ true → is_some (first_of id rs) ≡ true)
          → is_some (option_and_then (λ (x : Row). slice_get x.values 0) (cond b (Some r) (find (λ x. bytes_eq x.id id) rs))) ≡ true
      go true same there later = first_there r.values (ap (λ b. not b || is_filled r.values) (sym same) ∙ (both (has_value id r.id r.values) _ e).0)
      go false same there later = later there

  -- an argument that was given has a value
  pub given_has_first : (c : List Rule) (names : Names) (words : List Text) → is_no_option id c ≡ true → is_given id (rows_after c names words) ≡ true
      → is_some (first_of id (rows_after c names words)) ≡ true
  given_has_first c names words none given = given_first (rows_after c names words) (rows_have c names words none) given
