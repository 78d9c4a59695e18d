-- The claim, to be read aloud: what was written when `solve`, `session` or `check` comes to its end, for every text.
-- The contracts of the three engines say also what holds if a text is refused, a device fails or memory is refused; the
-- law `the_claim` draws from them what is said here.
use Rattle.std.specs.Prelude.{◌≡◌, ⊤, ℕ, ℤ, Bool, IsTrue, ◌↔◌, List, [], ◌∷◌, ◌++◌, length, Option, Some, Ok}
use Rattle.std.specs.List.{All, concat}
use Rattle.dimacs_lines.specs.Lines.{lines_of}
use Rattle.answer_text.specs.Answer.{answers}
use Rattle.dimacs_text.specs.Reading.{ProblemValue, reads}
use Rattle.dimacs_text.specs.Turns.{Turn}
use Rattle.answer_text.specs.declared.answer.Answer.{Answer}
use Rattle.dimacs_text.specs.declared.command.Command.TheVariants as commands
use Rattle.network.specs.Instance.{Instance, first, is_marked, numbered_flow, worth, IsBest, IsBreach, IsLegal}
use Rattle.history.specs.Boards.{Advances, all_boards}
use Rattle.flow_solver.specs.declared.verdict.Verdict.{Verdict}
use Rattle.flow_solver.specs.declared.verdict.Verdict.TheVariants.{Best, Infeasible}
use Rattle.flow_solver.specs.Answer.{IsAnswered}
use Rattle.flow_solver.specs.Moment.{Moment}
use Rattle.session.specs.Step.{Refuses, Reply, SessionState, StepBy, TurnStep}
use Rattle.checker.specs.Check.{IsRight, Settles, verdict_line}
use Rattle.engines.specs.Printing.{outcome_line, reply_text, solution}
use Rattle.engines.specs.Run.{turns_in}

-- ---- a plan, or a cut

-- the plan is legal, no legal plan is better, and the number is its worth; or no plan is legal, and the cut shows it by
-- the number
abbrev pub Means : Verdict → Instance → List ℤ → (ℕ → Bool) → Type 0
Means (Best number) I plan cut = IsBest I plan × (number ≡ worth I plan)
Means (Infeasible number) I plan cut = IsBreach I cut number × ((other : List ℤ) → IsLegal I other → ⊥)

-- the flow that is printed of a moment
abbrev pub plan_of : Moment → List ℤ
plan_of m = numbered_flow m.instance.demand m.flow

-- a moment's verdict is true of its instance, and its certificates are the chosen ones
pub record IsRightMoment (m : Moment) : Type 0 where
  pub means : Means m.verdict m.instance (plan_of m) (is_marked m.cut)
  pub answered : IsAnswered m

-- ---- solve

-- the text is a problem, and what is written is the solution of a right moment of it
pub record SolvesRightly (proof : Bool) (text written : List ℕ) : Type 0 where
  pub problem : ProblemValue
  pub problem_is : reads text ≡ Ok problem
  pub moment : Moment
  pub instance_is : moment.instance ≡ first problem 0
  pub right : IsRightMoment moment
  pub written_is : written ≡ solution proof moment

-- ---- session

-- each moment of a state is right: past, present and future
abbrev pub AreRightMoments : SessionState → Type 0
AreRightMoments state = All IsRightMoment (all_boards state.moments)

-- the first state has one moment, of the problem with room for so many arcs more, and no marks
pub record BeginsRightly (problem : ProblemValue) (extra : ℕ) (state : SessionState) : Type 0 where
  pub past : state.moments.past ≡ []
  pub instance_is : state.moments.present.instance ≡ first problem extra
  pub future : state.moments.future ≡ []
  pub marks : state.marks ≡ []
  pub right : AreRightMoments state

-- each turn is one step to a state of right moments, and has one reply, the text of that step
abbrev pub GoesRightly : SessionState → List Turn → List (List ℕ) → Type 0
GoesRightly state [] [] = ⊤
GoesRightly state [] (text ∷ texts) = ⊥
GoesRightly state (turn ∷ turns) [] = ⊥
GoesRightly state (turn ∷ turns) (text ∷ texts) =
    (next : SessionState) × (reply : Reply) × TurnStep state turn reply next × AreRightMoments next
    × (text ≡ reply_text reply next.moments.present) × GoesRightly next turns texts

-- the text is a problem; what is written is the verdict of the first state, and then the replies to all turns of the
-- commands, in order
pub record ServesRightly (extra : ℕ) (text commands written : List ℕ) : Type 0 where
  pub problem : ProblemValue
  pub problem_is : reads text ≡ Ok problem
  pub opening : SessionState
  pub begins : BeginsRightly problem extra opening
  pub replies : List (List ℕ)
  pub goes : GoesRightly opening (turns_in (lines_of commands)).whole replies
  pub written_is : written ≡ outcome_line opening.moments.present.verdict ++ concat replies

-- a turn that is refused changes nothing
abbrev pub RefusedTurnsChangeNothing : Type 0
RefusedTurnsChangeNothing =
    (old new : SessionState) (turn : Turn) (number : ℕ) → TurnStep old turn (Refuses number) new → new ≡ old

-- after a turn that made a new moment, `undo` leads back to the moment before it, whole, and to the past of that one
abbrev pub UndoRestores : Type 0
UndoRestores =
    (old changed new : SessionState) (reply : Reply) → Advances old.moments changed.moments
    → StepBy commands.Undo changed reply new
    → (new.moments.present ≡ old.moments.present) × (new.moments.past ≡ old.moments.past)

-- ---- check

-- the texts are a problem and an answer to it; `valid` is written exactly if the answer is right, and then no legal
-- plan is better, or none is legal
pub record JudgesRightly (problem_text answer_text written : List ℕ) : Type 0 where
  pub problem : ProblemValue
  pub problem_is : reads problem_text ≡ Ok problem
  pub answer : Answer
  pub answer_is : answers problem.nodes (length problem.arcs) answer_text ≡ Ok answer
  pub right : Bool
  pub exact : IsTrue right ↔ IsRight problem answer
  pub settles : IsTrue right → Settles answer problem
  pub written_is : written ≡ verdict_line right

-- ---- on devices

-- after what the device held, something was written of which this holds
abbrev pub Written : (List ℕ → Type 0) → List ℕ → Option (List ℕ) → Type 0
Written Holds held after = (written : List ℕ) × (after ≡ Some (held ++ written)) × Holds written
