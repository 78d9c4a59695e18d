-- The marks of a session: names that moments bear.
use Rattle.std.specs.Prelude.{◌≡◌, ℕ, suc, Bool, ◌||◌, List, [], ◌∷◌, length, filter, nat_eq, nat_le, nat_lt, Option, None, Some, is_some, All, AllPairs, ◌<◌, ◌≤◌, ◌≢◌, if◌then◌else◌}
use Rattle.std.specs.Cmp.Lexicographic.{pointwise}
use Rattle.history.specs.Boards.{Timeline, all_boards}
use Rattle.session.specs.declared.marks.Mark.{Mark}
use Rattle.session.specs.declared.marks.TheConstants.{MARK_LIMIT}

-- whether the mark has the name
abbrev pub has_name : Mark → List ℕ → Bool
has_name mark name = pointwise nat_eq mark.name name

-- the moment that bears the name, if one does
abbrev pub marked : List Mark → List ℕ → Option ℕ
marked [] name = None
marked (mark ∷ marks) name = if has_name mark name then Some mark.moment else marked marks name

-- whether a moment bears the name
abbrev pub has_mark : List Mark → List ℕ → Bool
has_mark marks name = is_some (marked marks name)

-- whether the name has a mark, or may have one: fewer than MARK_LIMIT names have
abbrev pub has_place : List Mark → List ℕ → Bool
has_place marks name = has_mark marks name || nat_lt (length marks) MARK_LIMIT

-- the name's mark stands on the moment: it is moved there, or put last
abbrev pub with_mark : List Mark → List ℕ → ℕ → List Mark
with_mark [] name moment = record { name = name; moment = moment } ∷ []
with_mark (mark ∷ marks) name moment =
    if has_name mark name then record { name = name; moment = moment } ∷ marks else mark ∷ with_mark marks name moment

-- how many marks stand before that of the name; all where it has none
abbrev pub place_of : List Mark → List ℕ → ℕ
place_of [] name = 0
place_of (mark ∷ marks) name = if has_name mark name then 0 else suc (place_of marks name)

-- the marks of the moments up to that one
abbrev pub up_to : ℕ → List Mark → List Mark
up_to last marks = filter (λ mark. nat_le mark.moment last) marks

-- of different names
abbrev pub HaveTwoNames : Mark → Mark → Type 0
HaveTwoNames mark other = mark.name ≢ other.name

-- no two marks are of one name, and no more names have marks than may
pub record AreMarks (marks : List Mark) : Type 0 where
  pub apart : AllPairs HaveTwoNames marks
  pub few : length marks ≤ MARK_LIMIT

-- each mark is that of a moment, counted from 0 at the opening
abbrev pub AreOn : {B : Type 0} → Timeline B → List Mark → Type 0
AreOn moments marks = All (λ mark. mark.moment < length (all_boards moments)) marks

-- the same boards, and so many of them past
pub record IsMovedTo {B : Type 0} (moment : ℕ) (old new : Timeline B) : Type 0 where
  pub boards : all_boards new ≡ all_boards old
  pub past : length new.past ≡ moment
