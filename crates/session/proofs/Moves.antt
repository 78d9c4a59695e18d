-- Moves along the boards of a timeline, step by step.
use Rattle.std.proofs.Common.{◌≡◌, ℕ, zero, suc, ◌+◌, ◌-◌, List, [], ◌∷◌, length, take, drop, get_or, refl, sym, ap, ◌∙◌, arith, length-append}
use Rattle.std.proofs.lemmas.List.{take_at, drop_at}
use Rattle.history.specs.Boards.{Timeline, all_boards, StepsBack, StepsForward}
use Rattle.history.specs.Repeated.{Repeated}
use Rattle.history.proofs.Timelines.{all_boards_back, all_boards_forward}
use Rattle.session.specs.Marks.{IsMovedTo}

module _ {B : Type 0} where
  past_of : (t : Timeline B) (n : ℕ) → length t.past ≡ n → take n (all_boards t) ≡ t.past
  past_of t n is = take_at t.past (t.present ∷ t.future) n is

  rest_of : (t : Timeline B) (n : ℕ) → length t.past ≡ n → drop n (all_boards t) ≡ t.present ∷ t.future
  rest_of t n is = drop_at t.past (t.present ∷ t.future) n is

  -- the same boards, with as many of them past
  pub same_timelines : (s t : Timeline B) → all_boards s ≡ all_boards t → length s.past ≡ length t.past → s ≡ t
  same_timelines s t same as_many =
      let past : s.past ≡ t.past = sym (past_of s (length t.past) as_many) ∙ ap (take (length t.past)) same ∙ past_of t (length t.past) refl in
      let rest : s.present ∷ s.future ≡ t.present ∷ t.future = sym (rest_of s (length t.past) as_many) ∙ ap (drop (length t.past)) same ∙ rest_of t (length t.past) refl in
      ap (λ (bs : List B). record { past = bs; present = s.present; future = s.future }) past
      ∙ ap (λ (bs : List B). record { past = t.past; present = get_or bs 0 s.present; future = drop 1 bs }) rest

  pub moved_alike : (n : ℕ) (old a b : Timeline B) → IsMovedTo n old a → IsMovedTo n old b → a ≡ b
  moved_alike n old a b first second = same_timelines a b (first.boards ∙ sym second.boards) (first.past ∙ sym second.past)

  pub undone_so_often : (n : ℕ) (old new : Timeline B) → Repeated StepsBack n old new → IsMovedTo (length old.past - n) old new
  undone_so_often zero old new same = record { boards = ap all_boards same; past = ap (λ (t : Timeline B). length t.past) same ∙ omega arith }
  undone_so_often (suc n) old new (mid, step, more) =
      let rest = undone_so_often n mid new more in
      let one = ap length step.past ∙ length-append mid.past (mid.present ∷ []) in
      record {
        boards = rest.boards ∙ all_boards_back old mid step;
        past = rest.past ∙ omega (arith, one);
      }

  pub redone_so_often : (n : ℕ) (old new : Timeline B) → Repeated StepsForward n old new → IsMovedTo (length old.past + n) old new
  redone_so_often zero old new same = record { boards = ap all_boards same; past = ap (λ (t : Timeline B). length t.past) same ∙ omega arith }
  redone_so_often (suc n) old new (mid, step, more) =
      let rest = redone_so_often n mid new more in
      let one = ap length step.past ∙ length-append old.past (old.present ∷ []) in
      record {
        boards = rest.boards ∙ all_boards_forward old mid step;
        past = rest.past ∙ omega (arith, one);
      }
