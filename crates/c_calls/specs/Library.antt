-- What the calls do, in terms of the state behind a handle: its moments and its marks.
use Rattle.std.specs.Prelude.{◌≡◌, ◌⊎◌, ℕ, ◌^◌, ◌==◌, ℤ, pos, ◌+ℤ◌, ◌*ℤ◌, Bool, true, false, not, List, [], length, Option, None, Some, Result, Ok, Err, if◌then◌else◌}
use Rattle.dimacs_lines.specs.declared.fault.LineFault.TheVariants as line_fault
use Rattle.dimacs_lines.specs.declared.fault.TextFault.{TextFault}
use Rattle.dimacs_lines.specs.declared.fault.TextFault.TheVariants as text_fault
use Rattle.dimacs_lines.specs.Fault.{number_of}
use Rattle.dimacs_lines.specs.Lines.{Line}
use Rattle.dimacs_text.specs.Group.{Gathered}
use Rattle.dimacs_text.specs.Reading.{ProblemValue, reads}
use Rattle.flow_solver.specs.Answer.{IsAnswered, IsChosenCut}
use Rattle.flow_solver.specs.Moment.{Moment}
use Rattle.flow_solver.specs.declared.verdict.Verdict.{Verdict}
use Rattle.flow_solver.specs.declared.verdict.Verdict.TheVariants.{Best, Infeasible}
use Rattle.history.specs.Boards.{Timeline}
use Rattle.network.specs.Instance.{IsBreach, IsCertified, IsLegal, at_node, first, is_marked, reduced}
use Rattle.session.specs.Parts.{flow_of}
use Rattle.session.specs.Step.{Reply, SessionState, TellsVerdict, Shows, Refuses}
use Rattle.session.specs.Turns.{TakesLine, asks, gathered_in}
use Rattle.c_calls.specs.declared.fault.Fault.{Fault}
use Rattle.c_calls.specs.declared.view.View.{View}
use Rattle.c_calls.specs.declared.status.TheConstants.{FAULT, MEMORY, NOT_THERE, OTHER_LENGTH}

-- ---- opening

-- the text's problem or its first fault; memory may be wanted for any text
abbrev pub ReadsAs : Result ProblemValue TextFault → List ℕ → Type 0
ReadsAs (Ok problem) text = reads text ≡ Ok problem
ReadsAs (Err (text_fault.Fault number line)) text = reads text ≡ Err (text_fault.Fault number line)
ReadsAs (Err text_fault.Memory) text = Unit {0}

-- a fault is reply_number by its status, and put where C looks for it; for want of memory nothing is put there
abbrev pub IsToldAs : TextFault → ℤ → Fault → Fault → Type 0
IsToldAs (text_fault.Fault number line) status old new = (status ≡ FAULT) × (new.number ≡ number) × (new.line ≡ line)
IsToldAs text_fault.Memory status old new = (status ≡ MEMORY) × (new ≡ old)

-- a session begins with the problem, answered, with room for so many arcs more, and without marks
pub record IsOpeningOf (problem : ProblemValue) (extra : ℕ) (s : SessionState) : Type 0 where
  pub instance_is : s.moments.present.instance ≡ first problem extra
  pub answered : IsAnswered s.moments.present
  pub no_past : s.moments.past ≡ []
  pub no_future : s.moments.future ≡ []
  pub no_marks : s.marks ≡ []

-- it begins with the problem of the text
pub record IsOpening (text : List ℕ) (extra : ℕ) (s : SessionState) : Type 0 where
  pub problem : ProblemValue
  pub problem_read : reads text ≡ Ok problem
  pub opening : IsOpeningOf problem extra s

-- it is the first fault of the text
abbrev pub IsFaultOf : List ℕ → Fault → Type 0
IsFaultOf text fault = reads text ≡ Err (text_fault.Fault fault.number fault.line)

-- no session begins: by a fault of the text, which is put where C looks for it, or for want of memory
abbrev pub IsNotOpened : List ℕ → ℤ → Fault → Fault → Type 0
IsNotOpened text status old new = ((status ≡ FAULT) × IsFaultOf text new) ⊎ ((status ≡ MEMORY) × (new ≡ old))

-- ---- steps

-- how a reply is reply_number: nothing to say, or the number of the refusal
abbrev pub reply_number : Reply → ℕ
reply_number TellsVerdict = 0
reply_number (Shows proof) = 0
reply_number (Refuses number) = number

-- a step is taken by which this relation holds, and its reply is reply_number by this number
abbrev pub Steps : (Reply → SessionState → Type 0) → ℕ → SessionState → Type 0
Steps StepTo number new = (reply : Reply) × (number ≡ reply_number reply) × StepTo reply new

-- how it is reply_number of a line, which may make no step
abbrev pub told_of : Option Reply → ℕ
told_of None = 0
told_of (Some reply) = reply_number reply

-- a line that asks for something is taken after the lines of the group that stands open, and the reply to the turn that it
-- makes whole is reply_number; any other is refused as no command, and changes nothing
pub record Took (opened : Option (List Line)) (line : Line) (group : Option Gathered) (old : SessionState) (number : ℕ) (new : SessionState) : Type 0 where
  pub asked : asks line ≡ true → (reply : Option Reply) × (number ≡ told_of reply) × TakesLine old opened line reply new group
  pub blank : asks line ≡ false → (number ≡ number_of line_fault.UnknownDesignator) × (new ≡ old) × (group ≡ gathered_in old opened)

-- the same of a group that stands open with any lines
abbrev pub TakesNext : Option Gathered → Line → Option Gathered → SessionState → ℕ → SessionState → Type 0
TakesNext before line group old number new = (opened : Option (List Line)) → before ≡ gathered_in old opened → Took opened line group old number new

-- ---- views

abbrev pub is_feasible : Verdict → Bool
is_feasible (Best worth) = true
is_feasible (Infeasible shortage) = false

-- a number in two halves, of which the high one has the sign
abbrev pub joined : ℤ → ℕ → ℤ
joined high low = high *ℤ pos (2 ^ 64) +ℤ pos low

abbrev pub ShowsVerdict : Verdict → View → Type 0
ShowsVerdict (Best worth) view = (view.feasible ≡ true) × (worth ≡ joined view.worth_high view.worth_low) × (view.shortage ≡ pos 0)
ShowsVerdict (Infeasible shortage) view = (view.feasible ≡ false) × (view.worth_high ≡ pos 0) × (view.worth_low ≡ 0) × (view.shortage ≡ shortage)

-- the view shows the present moment, and how many moments are past and future
pub record IsViewOf (t : Timeline Moment) (view : View) : Type 0 where
  pub verdict : ShowsVerdict t.present.verdict view
  pub nodes : view.nodes ≡ t.present.instance.nodes
  pub arcs : view.arcs ≡ length t.present.instance.arcs
  pub past : view.past ≡ length t.past
  pub future : view.future ≡ length t.future

-- what is reply_number of a list that is there or not, for a room of its own length or another
abbrev pub given : Bool → ℕ → ℕ → ℤ
given there count room = if there then (if count == room then pos 0 else OTHER_LENGTH) else NOT_THERE

-- the same of a list of a moment, by its verdict and its instance's sizes
abbrev pub given_of : Moment → (Moment → Bool) → (Moment → ℕ) → ℕ → ℤ
given_of m there count room = given (there m) (count m) room

abbrev pub has_flow : Moment → Bool
has_flow m = is_feasible m.verdict

abbrev pub has_cut : Moment → Bool
has_cut m = not (is_feasible m.verdict)

abbrev pub arc_count : Moment → ℕ
arc_count m = length m.instance.arcs

abbrev pub node_count : Moment → ℕ
node_count m = m.instance.nodes

-- ---- what the lists of a moment show

-- the potentials certify its flow
abbrev pub CertifyFlow : List ℤ → Moment → Type 0
CertifyFlow potentials m = IsCertified m.instance (flow_of m) (at_node potentials)

-- no flow of it is legal
abbrev pub NoneIsLegal : Moment → Type 0
NoneIsLegal m = (flow : List ℤ) → IsLegal m.instance flow → ⊥

-- the cut is a breach by the shortage that is reply_number, and the one that is chosen
abbrev pub IsBreachOf : List Bool → Moment → Type 0
IsBreachOf cut m = (shortage : ℤ) → m.verdict ≡ Infeasible shortage → IsBreach m.instance (is_marked cut) shortage

abbrev pub IsChosen : List Bool → Moment → Type 0
IsChosen cut m = IsChosenCut m.verdict (reduced m.instance) (is_marked cut)
