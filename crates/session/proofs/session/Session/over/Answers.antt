use Rattle.std.proofs.Common.{◌≡◌, zero, suc, ◌++◌, ◌∷◌, [], ◌<◌, List, length, reverse, sym, subst, arith}
use Rattle.std.proofs.lemmas.List.Elements.{All-nil}
use Rattle.std.specs.List.{All}
use Rattle.history.specs.Boards.{Changes, FitInTurn, all_boards, boards, met}
use Rattle.flow_solver.specs.Answer.{IsAnswered}
use Rattle.flow_solver.specs.Moment.{Moment}
use Rattle.session.specs.declared.marks.Mark.{Mark}
use Rattle.session.specs.Marks.{AreMarks, AreOn}
use Rattle.session.specs.Record.{Recorded, RecordFits, Differs, with_record}
use Rattle.session.specs.Session.{IsSessionAt}
use Rattle.session.proofs.Apart.{none_at_first}
use Rattle.session.proofs.session.Session.over.Goals as goal

-- so is each of one moment
all_one : (m : Moment) → IsAnswered m → All IsAnswered (m ∷ [])
all_one m answered zero d below = answered
all_one m answered (suc i) d below = absurd (omega arith)

-- with no change and no mark an answered moment is all that is held
held_fresh : (h : Changes Recorded) (m : Moment) (marks : List Mark) → h.past ≡ [] → h.future ≡ [] → IsAnswered m → marks ≡ [] → IsSessionAt h m marks
held_fresh h m marks past future answered none = record {
  kept = record {
    stands = record {
      back = subst (λ (p : List Recorded). FitInTurn RecordFits with_record (reverse p) m) (sym past) tt;
      forward = subst (λ (p : List Recorded). FitInTurn RecordFits with_record p m) (sym future) tt;
    };
    exact = record {
      back = subst (λ (p : List Recorded). FitInTurn Differs with_record (reverse p) m) (sym past) tt;
      forward = subst (λ (p : List Recorded). FitInTurn Differs with_record p m) (sym future) tt;
    };
    answered = subst (λ (p : List Recorded). All IsAnswered (reverse (met with_record (reverse p) m) ++ m ∷ met with_record h.future m)) (sym past)
        (subst (λ (p : List Recorded). All IsAnswered (m ∷ met with_record p m)) (sym future) (all_one m answered));
  };
  marked = subst (λ (ms : List Mark). AreOn (boards with_record h m) ms) (sym none) (All-nil (λ (mark : Mark). mark.moment < length (all_boards (boards with_record h m))));
  few = subst AreMarks (sym none) none_at_first;
}

pub invariant_of-result : goal.invariant_of-result
invariant_of-result g c = held_fresh c.new-2.result c.settle.new.self.moment c.new-3.result c.new-2.ensures.past c.new-2.ensures.future c.settle.ensures.answered c.new-3.ensures
