-- The lines that open and end a group, which are the same for every kind.
use Rattle.std.proofs.Common.{◌≡◌, ◌↔◌, Bool, true, false, not, ◌&&◌, IsTrue, cond, List, [], ◌∷◌, length, ◌==◌, Option, Some, None, Result, Ok, Err, refl, sym, ap, ◌∙◌, arith}
use Rattle.std.proofs.lemmas.Bool.{false≢true}
use Rattle.std.proofs.lemmas.Bool.Decides.{nat_tests}
use Rattle.dimacs_lines.specs.declared.fault.LineFault.{LineFault}
use Rattle.dimacs_lines.specs.declared.fault.LineFault.TheVariants as of_line
use Rattle.dimacs_text.specs.declared.command_fault.CommandFault.{CommandFault}
use Rattle.dimacs_text.specs.declared.command_fault.CommandFault.TheVariants as fault
use Rattle.dimacs_text.specs.declared.problem.Kind.{Kind}
use Rattle.dimacs_text.specs.declared.problem.Kind.TheVariants.{Min, Max, Asn}
use Rattle.dimacs_lines.specs.declared.name.Name.{Name}
use Rattle.dimacs_text.specs.declared.command.Edit.{Edit}
use Rattle.dimacs_text.specs.declared.command.Edit.TheVariants as edits
use Rattle.dimacs_text.specs.declared.command.Command.{Command}
use Rattle.dimacs_text.specs.declared.command.Command.TheVariants as commands
use Rattle.dimacs_text.specs.declared.command.Verb.{Verb}
use Rattle.dimacs_text.specs.declared.command.Verb.TheVariants as verbs
use Rattle.dimacs_lines.specs.Lines.{Line, is_too_long}
use Rattle.dimacs_lines.specs.Fields.{Word, words_of}
use Rattle.dimacs_lines.specs.Checks.{◌>>=◌, demand, some_or}
use Rattle.dimacs_text.specs.Command.{asked, as_back, as_edit, as_mark, ends_group, has_one, is_end, is_for, is_group, opens_group, read_add, read_bare, read_by, read_cap, read_close, read_cost, read_low, read_name, read_supply, read_words, verb_of}
use Rattle.dimacs_text.specs.Group.{is_end_asked}

-- a question of what a line asks for
abbrev asks : (Command → Bool) → Result Command CommandFault → Bool
asks such (Ok command) = such command
asks such (Err fault) = false

abbrev is_opening : Command → Bool
is_opening commands.Group = true
is_opening _ = false

abbrev is_ending : Command → Bool
is_ending commands.End = true
is_ending _ = false

-- no command with fields is meant
record IsBare (such : Command → Bool) : Type 0 where
  edit : (edit : Edit) → such (commands.Edit edit) ≡ false
  mark : (name : Name) → such (commands.Mark name) ≡ false
  back : (name : Name) → such (commands.Back name) ≡ false

not_edit : (such : Command → Bool) → IsBare such → (r : Result Edit LineFault) → asks such (as_edit r) ≡ false
not_edit such bare (Ok edit) = bare.edit edit
not_edit such bare (Err fault) = refl

not_mark : (such : Command → Bool) → IsBare such → (r : Result Name CommandFault) → asks such (as_mark r) ≡ false
not_mark such bare (Ok name) = bare.mark name
not_mark such bare (Err fault) = refl

not_back : (such : Command → Bool) → IsBare such → (r : Result Name CommandFault) → asks such (as_back r) ≡ false
not_back such bare (Ok name) = bare.back name
not_back such bare (Err fault) = refl

abbrev after_verb : Bool → Result Command CommandFault → Result Command CommandFault
after_verb has read = demand has fault.NotForKind >>= λ _. read

abbrev has_none : List Word → Bool
has_none [] = true
has_none (field ∷ fields) = false

none_left : (fields : List Word) → (length fields == 0) ≡ has_none fields
none_left [] = refl
none_left (field ∷ fields) = grind (arith, nat_tests)

never : (b : Bool) → (b && false) ≡ false
never true = refl
never false = refl

-- a command with fields
other_by : (such : Command → Bool) (has : Bool) (read : Result Command CommandFault) (fields : List Word) (command : Command) → asks such read ≡ false → such command ≡ false
    → asks such (after_verb has read) ≡ (has_none fields && such command)
other_by such has read fields command none other = by has ∙ sym (ap (λ x. has_none fields && x) other ∙ never (has_none fields))
  where
    by : (has : Bool) → asks such (after_verb has read) ≡ false
    by false = refl
    by true = none

edit_by : (such : Command → Bool) → IsBare such → (has : Bool) (r : Result Edit LineFault) (fields : List Word)
    → asks such (after_verb has (as_edit r)) ≡ (has_none fields && such (commands.Edit (edits.Close 0)))
edit_by such bare has r fields = other_by such has (as_edit r) fields (commands.Edit (edits.Close 0)) (not_edit such bare r) (bare.edit (edits.Close 0))

-- a command without fields
bare_by : (such : Command → Bool) (has : Bool) (fields : List Word) (command : Command) → has ≡ true
    → asks such (after_verb has (read_bare fields command)) ≡ (has_none fields && such command)
bare_by such has fields command e = rw e (rw (none_left fields) (by (has_none fields)))
  where
    by : (none : Bool) → asks such (cond none (Ok command) (Err (fault.Line of_line.WrongFieldCount))) ≡ (none && such command)
    by true = refl
    by false = refl

for_every : (verb : Verb) → is_for Min verb ≡ true → is_for Max verb ≡ true → is_for Asn verb ≡ true → (kind : Kind) → is_for kind verb ≡ true
for_every verb min max asn Min = min
for_every verb min max asn Max = max
for_every verb min max asn Asn = asn

-- the command of a verb without fields, and some edit for the verb of an edit
abbrev bare_of : Verb → Command
bare_of verbs.Undo = commands.Undo
bare_of verbs.Redo = commands.Redo
bare_of verbs.Show = commands.Show
bare_of verbs.Proof = commands.Proof
bare_of verbs.Group = commands.Group
bare_of verbs.End = commands.End
bare_of verbs.Mark = commands.Mark []
bare_of verbs.Back = commands.Back []
bare_of _ = commands.Edit (edits.Close 0)

verb_asks : (such : Command → Bool) → IsBare such → (kind : Kind) (verb : Verb) (fields : List Word)
    → asks such (after_verb (is_for kind verb) (read_by kind verb fields)) ≡ (has_none fields && such (bare_of verb))
verb_asks such bare kind verbs.Cap fields = edit_by such bare (is_for kind verbs.Cap) (read_cap fields) fields
verb_asks such bare kind verbs.Low fields = edit_by such bare (is_for kind verbs.Low) (read_low fields) fields
verb_asks such bare kind verbs.Cost fields = edit_by such bare (is_for kind verbs.Cost) (read_cost fields) fields
verb_asks such bare kind verbs.Supply fields = edit_by such bare (is_for kind verbs.Supply) (read_supply fields) fields
verb_asks such bare kind verbs.Add fields = edit_by such bare (is_for kind verbs.Add) (read_add kind fields) fields
verb_asks such bare kind verbs.Close fields = edit_by such bare (is_for kind verbs.Close) (read_close fields) fields
verb_asks such bare kind verbs.Mark fields = other_by such (is_for kind verbs.Mark) (as_mark (read_name fields)) fields (commands.Mark []) (not_mark such bare (read_name fields)) (bare.mark [])
verb_asks such bare kind verbs.Back fields = other_by such (is_for kind verbs.Back) (as_back (read_name fields)) fields (commands.Back []) (not_back such bare (read_name fields)) (bare.back [])
verb_asks such bare kind verbs.Undo fields = bare_by such (is_for kind verbs.Undo) fields commands.Undo (for_every verbs.Undo refl refl refl kind)
verb_asks such bare kind verbs.Redo fields = bare_by such (is_for kind verbs.Redo) fields commands.Redo (for_every verbs.Redo refl refl refl kind)
verb_asks such bare kind verbs.Show fields = bare_by such (is_for kind verbs.Show) fields commands.Show (for_every verbs.Show refl refl refl kind)
verb_asks such bare kind verbs.Proof fields = bare_by such (is_for kind verbs.Proof) fields commands.Proof (for_every verbs.Proof refl refl refl kind)
verb_asks such bare kind verbs.Group fields = bare_by such (is_for kind verbs.Group) fields commands.Group (for_every verbs.Group refl refl refl kind)
verb_asks such bare kind verbs.End fields = bare_by such (is_for kind verbs.End) fields commands.End (for_every verbs.End refl refl refl kind)

opening_verb : (verb : Verb) → is_opening (bare_of verb) ≡ is_group (Some verb)
opening_verb verbs.Cap = refl
opening_verb verbs.Low = refl
opening_verb verbs.Cost = refl
opening_verb verbs.Supply = refl
opening_verb verbs.Add = refl
opening_verb verbs.Close = refl
opening_verb verbs.Undo = refl
opening_verb verbs.Redo = refl
opening_verb verbs.Show = refl
opening_verb verbs.Proof = refl
opening_verb verbs.Group = refl
opening_verb verbs.End = refl
opening_verb verbs.Mark = refl
opening_verb verbs.Back = refl

ending_verb : (verb : Verb) → is_ending (bare_of verb) ≡ is_end (Some verb)
ending_verb verbs.Cap = refl
ending_verb verbs.Low = refl
ending_verb verbs.Cost = refl
ending_verb verbs.Supply = refl
ending_verb verbs.Add = refl
ending_verb verbs.Close = refl
ending_verb verbs.Undo = refl
ending_verb verbs.Redo = refl
ending_verb verbs.Show = refl
ending_verb verbs.Proof = refl
ending_verb verbs.Group = refl
ending_verb verbs.End = refl
ending_verb verbs.Mark = refl
ending_verb verbs.Back = refl

-- a question that no command with fields answers is answered by the one word of a line
record Brackets (such : Command → Bool) (is_such : Option Verb → Bool) : Type 0 where
  bare : IsBare such
  no_verb : is_such None ≡ false
  verb : (verb : Verb) → such (bare_of verb) ≡ is_such (Some verb)

opening : Brackets is_opening is_group
opening = record { bare = record { edit = λ edit. refl; mark = λ name. refl; back = λ name. refl }; no_verb = refl; verb = opening_verb }

ending : Brackets is_ending is_end
ending = record { bare = record { edit = λ edit. refl; mark = λ name. refl; back = λ name. refl }; no_verb = refl; verb = ending_verb }

one_by : (is_such : Option Verb → Bool) (verb : Option Verb) (fields : List Word) (word : Word) → verb_of word ≡ verb
    → (has_none fields && is_such verb) ≡ has_one is_such (word ∷ fields)
one_by is_such verb [] word e = ap is_such (sym e)
one_by is_such verb (field ∷ fields) word e = refl

words_ask : (such : Command → Bool) (is_such : Option Verb → Bool) → Brackets such is_such → (kind : Kind) (words : List Word)
    → asks such (read_words kind words) ≡ has_one is_such words
unfolding read_words
words_ask such is_such b kind [] = refl
words_ask such is_such b kind (word ∷ fields) = by (verb_of word) refl
  where
    by : (verb : Option Verb) → verb_of word ≡ verb
        → asks such (some_or verb (fault.Line of_line.UnknownDesignator) >>= λ v. after_verb (is_for kind v) (read_by kind v fields)) ≡ has_one is_such (word ∷ fields)
    by None e = sym (ap (λ x. has_none fields && x) b.no_verb ∙ never (has_none fields)) ∙ one_by is_such None fields word e
    by (Some verb) e = verb_asks such b.bare kind verb fields ∙ ap (λ x. has_none fields && x) (b.verb verb) ∙ one_by is_such (Some verb) fields word e

line_asks : (such : Command → Bool) (is_such : Option Verb → Bool) → Brackets such is_such → (kind : Kind) (line : Line)
    → asks such (asked kind line) ≡ (not (is_too_long line) && has_one is_such (words_of line))
line_asks such is_such b kind line = by (is_too_long line)
  where
    by : (long : Bool) → asks such (cond long (Err (fault.Line of_line.TooLong)) (read_words kind (words_of line))) ≡ (not long && has_one is_such (words_of line))
    by true = refl
    by false = words_ask such is_such b kind (words_of line)

opening_only : (r : Result Command CommandFault) → asks is_opening r ≡ true → r ≡ Ok commands.Group
opening_only (Ok (commands.Edit edit)) e = absurd (false≢true e)
opening_only (Ok commands.Undo) e = absurd (false≢true e)
opening_only (Ok commands.Redo) e = absurd (false≢true e)
opening_only (Ok commands.Show) e = absurd (false≢true e)
opening_only (Ok commands.Proof) e = absurd (false≢true e)
opening_only (Ok commands.Group) e = refl
opening_only (Ok commands.End) e = absurd (false≢true e)
opening_only (Ok (commands.Mark name)) e = absurd (false≢true e)
opening_only (Ok (commands.Back name)) e = absurd (false≢true e)
opening_only (Err fault) e = absurd (false≢true e)

ending_only : (r : Result Command CommandFault) → asks is_ending r ≡ true → r ≡ Ok commands.End
ending_only (Ok (commands.Edit edit)) e = absurd (false≢true e)
ending_only (Ok commands.Undo) e = absurd (false≢true e)
ending_only (Ok commands.Redo) e = absurd (false≢true e)
ending_only (Ok commands.Show) e = absurd (false≢true e)
ending_only (Ok commands.Proof) e = absurd (false≢true e)
ending_only (Ok commands.Group) e = absurd (false≢true e)
ending_only (Ok commands.End) e = refl
ending_only (Ok (commands.Mark name)) e = absurd (false≢true e)
ending_only (Ok (commands.Back name)) e = absurd (false≢true e)
ending_only (Err fault) e = absurd (false≢true e)

pub opens : (kind : Kind) (line : Line) → (asked kind line ≡ Ok commands.Group) ↔ IsTrue (opens_group line)
opens kind line =
    let same = line_asks is_opening is_group opening kind line in
    (λ e. sym same ∙ ap (asks is_opening) e, λ e. opening_only (asked kind line) (same ∙ e))

pub ends : (kind : Kind) (line : Line) → (asked kind line ≡ Ok commands.End) ↔ IsTrue (ends_group line)
ends kind line =
    let same = line_asks is_ending is_end ending kind line in
    (λ e. sym same ∙ ap (asks is_ending) e, λ e. ending_only (asked kind line) (same ∙ e))

end_asked : (r : Result Command CommandFault) → is_end_asked r ≡ asks is_ending r
end_asked (Ok (commands.Edit edit)) = refl
end_asked (Ok commands.Undo) = refl
end_asked (Ok commands.Redo) = refl
end_asked (Ok commands.Show) = refl
end_asked (Ok commands.Proof) = refl
end_asked (Ok commands.Group) = refl
end_asked (Ok commands.End) = refl
end_asked (Ok (commands.Mark name)) = refl
end_asked (Ok (commands.Back name)) = refl
end_asked (Err fault) = refl

pub is_end_asked-line : (kind : Kind) (line : Line) → is_end_asked (asked kind line) ≡ ends_group line
is_end_asked-line kind line = end_asked (asked kind line) ∙ line_asks is_ending is_end ending kind line
