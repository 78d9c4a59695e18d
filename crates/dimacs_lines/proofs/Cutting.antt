-- A text of whole lines is cut into them.
use Rattle.std.proofs.Common.{◌≡◌, ℕ, Bool, true, not, List, [], ◌∷◌, ◌++◌, append-nil, append_assoc, refl, sym, ◌∙◌}
use Rattle.std.specs.List.{list_all}
use Rattle.dimacs_lines.specs.Lines.{Line, is_line_feed, parts_of, lines_of}
use Rattle.dimacs_lines.proofs.Written.{first_of, not_true, is_plain}

abbrev pub plain : Line → Bool
plain line = list_all is_plain line

pub parts_line : (l text : Line) → plain l ≡ true → parts_of (l ++ 10 ∷ text) ≡ record { ended = l ∷ (parts_of text).ended; rest = (parts_of text).rest }
unfolding parts_of
parts_line [] text e = refl
parts_line (b ∷ l) text e =
    let both = first_of (not (is_line_feed b)) (plain l) e in
    rw (not_true (is_line_feed b) both.0, parts_line l text both.1) refl

-- lines, each with its LF
abbrev pub joined : List Line → List ℕ
joined [] = []
joined (l ∷ ls) = l ++ 10 ∷ joined ls

abbrev pub AllPlain : List Line → Type 0
AllPlain [] = Unit {0}
AllPlain (l ∷ ls) = (plain l ≡ true) × AllPlain ls

parts_nothing : parts_of [] ≡ record { ended = []; rest = [] }
unfolding parts_of
parts_nothing = refl

parts_joined : (ls : List Line) → AllPlain ls → parts_of (joined ls) ≡ record { ended = ls; rest = [] }
parts_joined [] all = parts_nothing
parts_joined (l ∷ ls) all = parts_line l (joined ls) all.0 ∙ rw (parts_joined ls all.1) refl

pub lines_joined : (ls : List Line) → AllPlain ls → lines_of (joined ls) ≡ ls
lines_joined ls all = rw (parts_joined ls all) (append-nil ls)

pub joined-append : (ls ms : List Line) → joined (ls ++ ms) ≡ joined ls ++ joined ms
joined-append [] ms = refl
joined-append (l ∷ ls) ms = rw (joined-append ls ms) (sym (append_assoc l (10 ∷ joined ls) (joined ms)))

pub AllPlain-append : (ls ms : List Line) → AllPlain ls → AllPlain ms → AllPlain (ls ++ ms)
AllPlain-append [] ms a b = b
AllPlain-append (l ∷ ls) ms a b = (a.0, AllPlain-append ls ms a.1 b)
