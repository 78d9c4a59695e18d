-- When an answer is right, and what `check` writes of it.
use Rattle.std.specs.Prelude.{◌≡◌, ℕ, ℤ, ◌-◌, ◌↔◌, IsTrue, Bool, true, false, List, [], ◌∷◌, ◌++◌, length, take, map, replicate, set, Option, None, Some, Ok, Err, IfSome, codes}
use Rattle.std.specs.List.{AllZip}
use Rattle.dimacs_io.specs.Device.{IsBeginning, text_over}
use Rattle.dimacs_io.specs.declared.device.Sink as sink
use Rattle.dimacs_io.specs.declared.device.Source as source
use Rattle.dimacs_text.specs.declared.problem.ArcRow.{ArcRow}
use Rattle.answer_text.specs.declared.answer.FlowLine.{FlowLine}
use Rattle.answer_text.specs.declared.answer.Answer.{Answer}
use Rattle.answer_text.specs.declared.answer.Answer.TheVariants.{Flow, Cut}
use Rattle.dimacs_lines.specs.declared.fault.TextFault.TheVariants.{Fault}
use Rattle.dimacs_lines.specs.Stream.{decided}
use Rattle.dimacs_text.specs.Reading.{ProblemValue, problem_rule, reads}
use Rattle.answer_text.specs.Answer.{answer_rule, answers}
use Rattle.network.specs.Instance.{IsBest, IsBestAnswer, IsCutAnswer, IsLegal, first}
use Rattle.runs.specs.declared.end.Text.TheVariants as the
use Rattle.runs.specs.declared.end.End.{End}
use Rattle.runs.specs.declared.end.End.TheVariants.{Solved, Infeasible, Ended, Valid, NotValid, Refused, ReadFailed, WriteFailed, Memory}
use Rattle.runs.specs.Reading.{IsAnswerText, IsProblemText}

-- ---- a right answer

-- an `f` line names the ends of its arc
pub record NamesEnds (arc : ArcRow) (line : FlowLine) : Type 0 where
  pub tail : line.tail ≡ arc.tail
  pub head : line.head ≡ arc.head

-- there is one `f` line an arc, in the order of the arcs, and each names its ends
abbrev pub NameEnds : List ArcRow → List FlowLine → Type 0
NameEnds arcs lines = AllZip NamesEnds arcs lines

-- the flows that the `f` lines say
abbrev pub flow_of_lines : List FlowLine → List ℤ
flow_of_lines lines = map (λ line. line.flow) lines

-- more nodes are marked
abbrev pub mark_all : List Bool → List ℕ → List Bool
mark_all marks [] = marks
mark_all marks (id ∷ ids) = mark_all (set marks (id - 1) true) ids

-- one mark a node, which says whether the node is listed
abbrev pub listed_marks : ℕ → List ℕ → List Bool
listed_marks nodes ids = mark_all (replicate nodes false) ids

-- a flow with the ends of the arcs, its worth and potentials that certify it; or a breach by so much
abbrev pub IsRight : ProblemValue → Answer → Type 0
IsRight problem (Flow value lines potentials) = NameEnds problem.arcs lines × IsBestAnswer (first problem 0) (flow_of_lines lines) potentials value
IsRight problem (Cut shortage ids) = IsCutAnswer (first problem 0) (listed_marks problem.nodes ids) shortage

-- what a right answer shows: no legal flow is better, or there is none
abbrev pub Settles : Answer → ProblemValue → Type 0
Settles (Flow value lines potentials) problem = IsBest (first problem 0) (flow_of_lines lines)
Settles (Cut shortage ids) problem = (flow : List ℤ) → IsLegal (first problem 0) flow → ⊥

abbrev pub verdict_line : Bool → List ℕ
verdict_line true = codes "valid\n"
verdict_line false = codes "not valid\n"

-- ---- what is written, over the texts of the sources and the first bytes of them that were given

-- the answer that the two texts give is right exactly where the test is true
pub record Judges (problem_text problem_given answer_text answer_given : List ℕ) (right : Bool) : Type 0 where
  pub problem : ProblemValue
  pub problem_read : IsProblemText problem_text problem_given problem
  pub answer : Answer
  pub answer_read : IsAnswerText problem answer_text answer_given answer
  pub exact : IsTrue right ↔ IsRight problem answer

-- what was written, by how the run ends
abbrev pub CheckWrites : End → List ℕ → List ℕ → List ℕ → List ℕ → List ℕ → Type 0
CheckWrites Valid problem_text problem_given answer_text answer_given written =
    Judges problem_text problem_given answer_text answer_given true × (written ≡ verdict_line true)
CheckWrites NotValid problem_text problem_given answer_text answer_given written =
    Judges problem_text problem_given answer_text answer_given false × (written ≡ verdict_line false)
CheckWrites (Refused the.Problem number line) problem_text problem_given answer_text answer_given written =
    (reads problem_text ≡ Err (Fault number line)) × (written ≡ [])
CheckWrites (Refused the.Answer number line) problem_text problem_given answer_text answer_given written =
    (problem : ProblemValue) × IsProblemText problem_text problem_given problem
    × (answers problem.nodes (length problem.arcs) answer_text ≡ Err (Fault number line)) × (written ≡ [])
CheckWrites (ReadFailed the.Problem) problem_text problem_given answer_text answer_given written =
    (decided problem_rule problem_given ≡ None) × (written ≡ [])
CheckWrites (ReadFailed the.Answer) problem_text problem_given answer_text answer_given written =
    (problem : ProblemValue) × IsProblemText problem_text problem_given problem
    × (decided (answer_rule problem.nodes (length problem.arcs)) answer_given ≡ None) × (written ≡ [])
CheckWrites WriteFailed problem_text problem_given answer_text answer_given written =
    (right : Bool) × Judges problem_text problem_given answer_text answer_given right × IsBeginning written (verdict_line right)
CheckWrites Memory problem_text problem_given answer_text answer_given written = written ≡ []
CheckWrites Solved problem_text problem_given answer_text answer_given written = ⊥
CheckWrites Infeasible problem_text problem_given answer_text answer_given written = ⊥
CheckWrites Ended problem_text problem_given answer_text answer_given written = ⊥
CheckWrites (Refused the.Commands number line) problem_text problem_given answer_text answer_given written = ⊥
CheckWrites (ReadFailed the.Commands) problem_text problem_given answer_text answer_given written = ⊥

-- the same of devices that tell their bytes: how many were read, and what the sink holds before and after
abbrev pub CheckOnDevices : End → Option (List ℕ) → ℕ → Option (List ℕ) → ℕ → Option (List ℕ) → Option (List ℕ) → Type 0
CheckOnDevices end problem_known problem_count answer_known answer_count before after =
    IfSome problem_known (λ problem_text. IfSome answer_known (λ answer_text. IfSome before (λ held.
    (written : List ℕ) × (after ≡ Some (held ++ written))
    × CheckWrites end problem_text (take problem_count problem_text) answer_text (take answer_count answer_text) written)))

-- the same by what sources and sink tell before and after
abbrev pub CheckBetween : {P A O : Type 0} → source.Ghosts P → source.Ghosts A → sink.Ghosts O → End → P → P → A → A → O → O → Type 0
CheckBetween problem answer out end old new asked told before after =
    CheckOnDevices end (text_over problem.remaining problem.given old new) (problem.most_left old - problem.most_left new)
    (text_over answer.remaining answer.given asked told) (answer.most_left asked - answer.most_left told) (out.contents before) (out.contents after)

-- two texts of which the answer settles the problem
pub record AreSettled (problem_text answer_text : List ℕ) : Type 0 where
  pub problem : ProblemValue
  pub problem_is : reads problem_text ≡ Ok problem
  pub answer : Answer
  pub answer_is : answers problem.nodes (length problem.arcs) answer_text ≡ Ok answer
  pub settled : Settles answer problem

-- where the end is Valid, the answer of known texts settles the problem
abbrev pub ValidSettles : End → Option (List ℕ) → Option (List ℕ) → Type 0
ValidSettles end problem_known answer_known =
    IfSome problem_known (λ problem_text. IfSome answer_known (λ answer_text. end ≡ Valid → AreSettled problem_text answer_text))
