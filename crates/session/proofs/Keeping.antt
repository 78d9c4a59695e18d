-- What a session keeps, over each step.
use Rattle.std.proofs.Common.{◌≡◌, ◌-◌, ◌^◌, ◌<◌, Bool, true, false, List, [], ◌∷◌, ◌++◌, length, get_or, refl, sym, ap, subst, arith}
use Rattle.std.specs.Bool.{OnTrue, OnFalse}
use Rattle.std.specs.List.{All}
use Rattle.std.proofs.lemmas.List.{get_or_at}
use Rattle.history.specs.Boards.{Changes, Timeline, all_boards, boards, StandsFor, StepsBack, StepsForward, Advances, MovesBack, MovesForward}
use Rattle.history.proofs.Timelines.{stands_push, stands_back, stands_forward, boards_same, all_boards_back, all_boards_forward, all_advance}
use Rattle.flow_solver.specs.Moment.{Moment}
use Rattle.flow_solver.specs.Answer.{IsAnswered}
use Rattle.flow_solver.specs.TablesView.{TablesView}
use Rattle.session.specs.Parts.{named, flow_of}
use Rattle.session.specs.Record.{Recorded, RecordFits, Differs, with_record, record_turned}
use Rattle.session.specs.RecordLaws.{board_again, flow_of-swapped, go_there}
use Rattle.session.specs.Session.{IsHistoryAt}
use Rattle.session.proofs.Exact.{differ_taken, differ_exchanged}

-- a turned record names only what differs too
differs_turned : (r : Recorded) (m : Moment) → RecordFits r m → Differs r m → Differs (record_turned r m) (with_record r m)
differs_turned r m fits differs =
    let N = named r.parts in
    record {
      flows = rw (flow_of-swapped r m fits.verdict) (differ_taken r.flows N.go N.come_flows (flow_of m) (go_there r m fits) fits.flows.rising fits.flows.within differs.flows);
      potentials = differ_exchanged r.potentials m.potentials fits.potentials.rising fits.potentials.within differs.potentials;
      marks = differ_exchanged r.marks m.cut fits.marks.rising fits.marks.within differs.marks;
    }

pub kept_same : (old new : Changes Recorded) (m : Moment) → new.past ≡ old.past → new.future ≡ old.future → IsHistoryAt old m → IsHistoryAt new m
kept_same old new m past future kept = record {
  stands = record { back = rw past kept.stands.back; forward = rw future kept.stands.forward };
  exact = record { back = rw past kept.exact.back; forward = rw future kept.exact.forward };
  answered = subst (λ (t : Timeline Moment). All IsAnswered (all_boards t)) (sym (boards_same with_record old new m past future)) kept.answered;
}

kept_back : (old new : Changes Recorded) (m d : Moment) → IsHistoryAt old m → StandsFor RecordFits with_record new d → MovesBack record_turned with_record old new m d → StepsBack (boards with_record old m) (boards with_record new d) → IsHistoryAt new d
kept_back old new m d kept stands moves steps = record {
  stands = stands;
  exact = stands_back Differs record_turned with_record RecordFits differs_turned board_again old new m d kept.stands kept.exact moves;
  answered = subst (All IsAnswered) (sym (all_boards_back (boards with_record old m) (boards with_record new d) steps)) kept.answered;
}

kept_forward : (old new : Changes Recorded) (m d : Moment) → IsHistoryAt old m → StandsFor RecordFits with_record new d → MovesForward record_turned with_record old new m d → StepsForward (boards with_record old m) (boards with_record new d) → IsHistoryAt new d
kept_forward old new m d kept stands moves steps = record {
  stands = stands;
  exact = stands_forward Differs record_turned with_record RecordFits differs_turned board_again old new m d kept.stands kept.exact moves;
  answered = subst (All IsAnswered) (sym (all_boards_forward (boards with_record old m) (boards with_record new d) steps)) kept.answered;
}

-- a new step: the record leads from the new moment to the old one
pub kept_push : (old new : Changes Recorded) (r : Recorded) (m d : Moment) → IsHistoryAt old m → RecordFits r d → Differs r d → with_record r d ≡ m → IsAnswered d → new.past ≡ old.past ++ r ∷ [] → new.future ≡ [] → Advances (boards with_record old m) (boards with_record new d) → IsHistoryAt new d
kept_push old new r m d kept fits differs leads answered past future advances = record {
  stands = stands_push RecordFits record_turned with_record old new r d fits (rw leads kept.stands) past future;
  exact = stands_push Differs record_turned with_record old new r d differs (rw leads kept.exact) past future;
  answered = all_advance IsAnswered (boards with_record old m) (boards with_record new d) advances kept.answered answered;
}

pub kept_by_undo : (moved : Bool) (old new : Changes Recorded) (m d : Moment) → IsHistoryAt old m → StandsFor RecordFits with_record new d → OnTrue moved (MovesBack record_turned with_record old new m d) → OnTrue moved (StepsBack (boards with_record old m) (boards with_record new d)) → OnFalse moved (new ≡ old) → OnFalse moved (d ≡ m) → IsHistoryAt new d
kept_by_undo true old new m d kept stands moves steps same same_board = kept_back old new m d kept stands moves steps
kept_by_undo false old new m d kept stands moves steps same same_board = rw (same, same_board) kept

pub kept_by_redo : (moved : Bool) (old new : Changes Recorded) (m d : Moment) → IsHistoryAt old m → StandsFor RecordFits with_record new d → OnTrue moved (MovesForward record_turned with_record old new m d) → OnTrue moved (StepsForward (boards with_record old m) (boards with_record new d)) → OnFalse moved (new ≡ old) → OnFalse moved (d ≡ m) → IsHistoryAt new d
kept_by_redo true old new m d kept stands moves steps same same_board = kept_forward old new m d kept stands moves steps
kept_by_redo false old new m d kept stands moves steps same same_board = rw (same, same_board) kept

-- a board that stays keeps its moment
pub same_moment : (moved : Bool) (old new : TablesView) → OnFalse moved (new ≡ old) → OnFalse moved (new.moment ≡ old.moment)
same_moment true old new same = tt
same_moment false old new same = ap (λ (t : TablesView). t.moment) same

-- the present moment is one of all
pub present_answered : (h : Changes Recorded) (m : Moment) → IsHistoryAt h m → IsAnswered m
present_answered h m kept =
    let t : Timeline Moment = boards with_record h m in
    let at : get_or (all_boards t) (length t.past) m ≡ m = get_or_at t.past m t.future m (length t.past) refl in
    rw at at (kept.answered (length t.past) m (present_within t.past m t.future))
  where
    present_within : (xs : List Moment) (x : Moment) (ys : List Moment) → length xs < length (xs ++ x ∷ ys)
    present_within [] x ys = omega arith
    present_within (y ∷ xs) x ys = omega (arith, present_within xs x ys)

-- how many values the views of the present moment hold
pub few_arcs : (h : Changes Recorded) (m : Moment) → IsHistoryAt h m → length m.instance.arcs < 2 ^ 32 - 1
few_arcs h m kept = let lawful = (present_answered h m kept).sized.lawful in omega (arith, lawful.count, lawful.room)

pub few_nodes : (h : Changes Recorded) (m : Moment) → IsHistoryAt h m → m.instance.nodes < 2 ^ 32 - 1
few_nodes h m kept = let lawful = (present_answered h m kept).sized.lawful in omega (arith, lawful.nodes.1)
