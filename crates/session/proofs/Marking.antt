-- Marks of moments, and moves along the moments.
use Rattle.std.proofs.Common.{◌≡◌, ℕ, suc, ◌+◌, ◌-◌, ◌<◌, ◌≤◌, ◌↔◌, Bool, true, false, cond, IsTrue, Option, None, Some, List, [], ◌∷◌, length, refl, sym, ap, ◌∙◌, arith, length-append, nat_le, if◌then◌else◌}
use Rattle.std.proofs.lemmas.Bool.{leb-true}
use Rattle.std.proofs.lemmas.List.Elements.{All-cons, All-nil, All-head, All-tail}
use mathlib.Core.Bool.{false≢true}
use Rattle.std.specs.Bool.{OnTrue, OnFalse}
use Rattle.std.specs.List.{All}
use Rattle.history.specs.Boards.{Changes, boards, Timeline, all_boards, StepsBack, StepsForward, Advances}
use Rattle.history.proofs.Timelines.{all_boards_back, all_boards_forward}
use Rattle.flow_solver.specs.Moment.{Moment}
use Rattle.session.specs.declared.marks.Mark.{Mark}
use Rattle.session.specs.Marks.{has_name, marked, IsMovedTo, AreOn, up_to, with_mark}
use Rattle.session.specs.Record.{Recorded, with_record}

module _ {B : Type 0} where
  -- how many boards there are
  pub length-boards : (t : Timeline B) → length (all_boards t) ≡ length t.past + suc (length t.future)
  length-boards t = length-append t.past (t.present ∷ t.future)

  pub moved_on : (s t u : Timeline B) (b : Bool) (n k : ℕ) → IsMovedTo n s t → n + 1 ≡ k → k ≤ length s.past + length s.future → IsTrue b ↔ (0 < length t.future) → OnTrue b (StepsForward t u) → IsMovedTo k s u
  moved_on s t u true n k moved one there answer step = record {
    boards = all_boards_forward t u step ∙ moved.boards;
    past =
        let more = ap length step.past ∙ length-append t.past (t.present ∷ []) in
        omega (arith, more, moved.past, one);
  }
  moved_on s t u false n k moved one there answer step =
      let same = sym (length-boards t) ∙ ap length moved.boards ∙ length-boards s in
      absurd (false≢true (answer.1 (omega (arith, same, moved.past, one, there))))

module _ (h k : Changes Recorded) (m d : Moment) (marks : List Mark) where
  -- marks stay on the same boards
  pub stays : all_boards (boards with_record k d) ≡ all_boards (boards with_record h m) → AreOn (boards with_record h m) marks → AreOn (boards with_record k d) marks
  stays same on = rw same on

pub stays_back : (moved : Bool) (h k : Changes Recorded) (m d : Moment) (marks : List Mark) → OnTrue moved (StepsBack (boards with_record h m) (boards with_record k d)) → OnFalse moved (k ≡ h) → OnFalse moved (d ≡ m) → AreOn (boards with_record h m) marks → AreOn (boards with_record k d) marks
stays_back true h k m d marks step same same_board on = stays h k m d marks (all_boards_back (boards with_record h m) (boards with_record k d) step) on
stays_back false h k m d marks step same same_board on = rw (same, same_board) on

pub stays_on : (moved : Bool) (h k : Changes Recorded) (m d : Moment) (marks : List Mark) → OnTrue moved (StepsForward (boards with_record h m) (boards with_record k d)) → OnFalse moved (k ≡ h) → OnFalse moved (d ≡ m) → AreOn (boards with_record h m) marks → AreOn (boards with_record k d) marks
stays_on true h k m d marks step same same_board on = stays h k m d marks (all_boards_forward (boards with_record h m) (boards with_record k d) step) on
stays_on false h k m d marks step same same_board on = rw (same, same_board) on

-- only such marks stay
and_up_to : (n : ℕ) (mark : Mark) (rest : List Mark) (b : Bool) → nat_le mark.moment n ≡ b → All (λ m. m.moment ≤ n) rest → All (λ m. m.moment ≤ n) (cond b (mark ∷ rest) rest)
and_up_to n mark rest true is all = All-cons (λ (m : Mark). m.moment ≤ n) mark rest (leb-true mark.moment n is) all
and_up_to n mark rest false is all = all

each_up_to : (n : ℕ) (marks : List Mark) → All (λ mark. mark.moment ≤ n) (up_to n marks)
each_up_to n [] = All-nil (λ (mark : Mark). mark.moment ≤ n)
each_up_to n (mark ∷ marks) = and_up_to n mark (up_to n marks) (nat_le mark.moment n) refl (each_up_to n marks)

-- a new step: the marks up to the old present are on the boards that stay
pub on_new : {B : Type 0} (old new : Timeline B) (marks : List Mark) (n : ℕ) → Advances old new → n ≡ length old.past → AreOn new (up_to n marks)
on_new old new marks n made is i d below =
    let more = ap length made.past ∙ length-append old.past (old.present ∷ []) in
    omega (arith, each_up_to n marks i d below, more, length-boards new, is)

-- a mark that is put on a moment
one_by : (P : Mark → Type 0) (mark put : Mark) (marks rest : List Mark) (b : Bool) → P put → All P (mark ∷ marks) → All P rest → All P (if b then put ∷ marks else mark ∷ rest)
one_by P mark put marks rest true holds all more = All-cons P put marks holds (All-tail P mark marks all)
one_by P mark put marks rest false holds all more = All-cons P mark rest (All-head P mark marks all) more

pub with_one : (P : Mark → Type 0) (marks : List Mark) (name : List ℕ) (moment : ℕ) → All P marks → P (record { name = name; moment = moment }) → All P (with_mark marks name moment)
with_one P [] name moment all holds = All-cons P (record { name = name; moment = moment }) [] holds (All-nil P)
with_one P (mark ∷ marks) name moment all holds =
    one_by P mark (record { name = name; moment = moment }) marks (with_mark marks name moment) (has_name mark name) holds all (with_one P marks name moment (All-tail P mark marks all) holds)

-- a mark that is put on the present moment
pub on_present : {B : Type 0} (t : Timeline B) (marks new : List Mark) (name : List ℕ) (n : ℕ) → n ≡ length t.past → AreOn t marks → new ≡ with_mark marks name n → AreOn t new
on_present t marks new name n is on put = rw put (with_one (λ mark. mark.moment < length (all_boards t)) marks name n on (omega (arith, is, length-boards t)))

-- the moment that bears a name is one of all
some_same : (a b : ℕ) → ◌≡◌ {A = Option ℕ} (Some a) (Some b) → a ≡ b
some_same a b e = cc

found_by : (bound moment k : ℕ) (rest : Option ℕ) (b : Bool) → moment < bound → (rest ≡ Some k → k < bound) → (if b then Some moment else rest) ≡ Some k → k < bound
found_by bound moment k rest true first later found = rw (← some_same moment k found) first
found_by bound moment k rest false first later found = later found

marked_below : (bound : ℕ) (marks : List Mark) (name : List ℕ) (k : ℕ) → All (λ mark. mark.moment < bound) marks → marked marks name ≡ Some k → k < bound
marked_below bound [] name k all found =
    let no : ◌≡◌ {A = Option ℕ} None (Some k) = found in
    cc
marked_below bound (mark ∷ marks) name k all found =
    found_by bound mark.moment k (marked marks name) (has_name mark name)
    (All-head (λ (m : Mark). m.moment < bound) mark marks all)
    (marked_below bound marks name k (All-tail (λ (m : Mark). m.moment < bound) mark marks all))
    found

pub few_ahead : {B : Type 0} (t : Timeline B) (marks : List Mark) (name : List ℕ) (k n : ℕ) → AreOn t marks → marked marks name ≡ Some k → n ≡ length t.past → n ≤ k → k - n ≤ length t.future
few_ahead t marks name k n on found is above = omega (arith, marked_below (length (all_boards t)) marks name k on found, length-boards t, is, above)
