-- The answer to a problem, in room of the caller's.
use Rattle.std.specs.Prelude.{◌≡◌, ℕ, ◌≤◌, ◌++◌, ℤ, List, length, drop, Ok}
use Rattle.dimacs_text.specs.Reading.{ProblemValue, reads}
use Rattle.flow_solver.specs.Moment.{Moment}
use Rattle.flow_solver.specs.declared.verdict.Verdict.{Verdict}
use Rattle.flow_solver.specs.declared.verdict.Verdict.TheVariants.{Best, Infeasible}
use Rattle.network.specs.Instance.{IsBest, IsBreach, is_marked}
use Rattle.session.specs.Parts.{flow_of}
use Rattle.session.specs.Step.{SessionState}
use Rattle.c_calls.specs.Library.{CertifyFlow, IsOpeningOf, IsViewOf, NoneIsLegal}
use Rattle.c_calls.specs.declared.answer.AnswerRoom.{AnswerRoom}

-- room for each list of the problem's answer
pub record HasRoomFor (problem : ProblemValue) (answer : AnswerRoom) : Type 0 where
  pub flow : length problem.arcs ≤ length answer.flow.now
  pub potentials : problem.nodes ≤ length answer.potentials.now
  pub cut : problem.nodes ≤ length answer.cut.now

-- a list at the start of a room
abbrev pub written_over : {T : Type 0} → List T → List T → List T
written_over list room = list ++ drop (length list) room

-- a best flow is in its room, and potentials that certify it
pub record IsBestGiven (m : Moment) (old new : AnswerRoom) : Type 0 where
  pub flow_is : new.flow.now ≡ written_over (flow_of m) old.flow.now
  pub potentials_are : new.potentials.now ≡ written_over m.potentials old.potentials.now
  pub cut_stays : new.cut.now ≡ old.cut.now
  pub best : IsBest m.instance (flow_of m)
  pub certified : CertifyFlow m.potentials m

-- a cut is in its room that is a breach by the shortage, and no flow is legal
pub record IsCutGiven (m : Moment) (shortage : ℤ) (old new : AnswerRoom) : Type 0 where
  pub cut_is : new.cut.now ≡ written_over m.cut old.cut.now
  pub flow_stays : new.flow.now ≡ old.flow.now
  pub potentials_stay : new.potentials.now ≡ old.potentials.now
  pub breach : IsBreach m.instance (is_marked m.cut) shortage
  pub none_legal : NoneIsLegal m

abbrev pub IsGivenBy : Verdict → Moment → AnswerRoom → AnswerRoom → Type 0
IsGivenBy (Best worth) m old new = IsBestGiven m old new
IsGivenBy (Infeasible shortage) m old new = IsCutGiven m shortage old new

-- the lists that answer, by the moment's verdict
abbrev pub IsGiven : Moment → AnswerRoom → AnswerRoom → Type 0
IsGiven m old new = IsGivenBy m.verdict m old new

-- what opening a session on the problem and looking gives
pub record IsProblemSolved (problem : ProblemValue) (old new : AnswerRoom) : Type 0 where
  pub session : SessionState
  pub opening : IsOpeningOf problem 0 session
  pub room : HasRoomFor problem old
  pub view : IsViewOf session.moments new.view
  pub lists : IsGiven session.moments.present old new

-- the problem of the text is solved so
pub record IsSolved (text : List ℕ) (old new : AnswerRoom) : Type 0 where
  pub problem : ProblemValue
  pub problem_read : reads text ≡ Ok problem
  pub solved : IsProblemSolved problem old new

-- the problem's lists have no room, and its sizes are told
pub record IsProblemTooLong (problem : ProblemValue) (old new : AnswerRoom) : Type 0 where
  pub no_room : HasRoomFor problem old → ⊥
  pub sizes : new.view ≡ record old.view { nodes = problem.nodes; arcs = length problem.arcs }

-- the problem of the text is told so
pub record IsTooShort (text : List ℕ) (old new : AnswerRoom) : Type 0 where
  pub problem : ProblemValue
  pub problem_read : reads text ≡ Ok problem
  pub too_long : IsProblemTooLong problem old new

-- nothing is written to the lists
pub record AreListsKept (old new : AnswerRoom) : Type 0 where
  pub flow : new.flow.now ≡ old.flow.now
  pub potentials : new.potentials.now ≡ old.potentials.now
  pub cut : new.cut.now ≡ old.cut.now

-- the room is where it was
pub record IsSameRoom (old new : AnswerRoom) : Type 0 where
  pub flow : new.flow.ghost_name ≡ old.flow.ghost_name
  pub potentials : new.potentials.ghost_name ≡ old.potentials.ghost_name
  pub cut : new.cut.ghost_name ≡ old.cut.ghost_name
