-- What `solve` writes with a proof, `check` finds valid, unless a device or memory fails.
use Rattle.std.proofs.Common.{◌≡◌, ℕ, Bool, true, false, List, length, Ok, Err, Result, sym, subst, ◌∙◌}
use Rattle.dimacs_lines.specs.declared.fault.TextFault.{TextFault}
use Rattle.dimacs_lines.specs.declared.fault.TextFault.TheVariants.{Fault}
use Rattle.dimacs_text.specs.Reading.{ProblemValue, reads}
use Rattle.answer_text.specs.declared.answer.Answer.{Answer}
use Rattle.answer_text.specs.Answer.{answers}
use Rattle.network.specs.Instance.{first}
use Rattle.flow_solver.specs.Moment.{Moment}
use Rattle.flow_solver.specs.Answer.{IsAnswered}
use Rattle.checker.specs.Check.{CheckWrites, IsRight, Judges}
use Rattle.runs.specs.declared.end.Text.TheVariants as the
use Rattle.runs.specs.declared.end.End.{End}
use Rattle.runs.specs.declared.end.End.TheVariants.{Solved, Infeasible, Ended, Valid, NotValid, Refused, ReadFailed, WriteFailed, Memory}
use Rattle.engines.specs.Printing.{solution}
use Rattle.engines.specs.Solve.{Prints}
use Rattle.answer_laws.specs.Ends.{IsValidOrFailed}
use Rattle.answer_laws.proofs.Short.{shown_is_right}

-- a right answer to the problem of a text
record IsRightText (text solved : List ℕ) : Type 0 where
  problem : ProblemValue
  problem_is : reads text ≡ Ok problem
  answer : Answer
  answer_is : answers problem.nodes (length problem.arcs) solved ≡ Ok answer
  right : IsRight problem answer

right_text : (text : List ℕ) (problem : ProblemValue) (m : Moment) (room : ℕ) → reads text ≡ Ok problem → m.instance ≡ record (first problem 0) { room = room } → IsAnswered m
    → IsRightText text (solution true m)
right_text text problem m room read is answered =
    let right = shown_is_right problem m room is answered in
    record { problem = problem; problem_is = read; answer = right.0; answer_is = right.1; right = right.2 }

ok_is_no_fault : {X : Type 0} (x : X) (fault : TextFault) → ◌≡◌ {A = Result X TextFault} (Ok x) (Err fault) → ⊥
ok_is_no_fault x fault e = cc

ok_same : {X : Type 0} (x y : X) → ◌≡◌ {A = Result X TextFault} (Ok x) (Ok y) → x ≡ y
ok_same x y e = cc

false_is_true : ◌≡◌ {A = Bool} false true → ⊥
false_is_true e = cc

module _ (text solved : List ℕ) (right : IsRightText text solved) where
  same_problem : (other : ProblemValue) → reads text ≡ Ok other → other ≡ right.problem
  same_problem other is = ok_same other right.problem (sym is ∙ right.problem_is)

  answers_right : (other : ProblemValue) → reads text ≡ Ok other → answers other.nodes (length other.arcs) solved ≡ Ok right.answer
  answers_right other is = subst (λ (p : ProblemValue). answers p.nodes (length p.arcs) solved ≡ Ok right.answer) (sym (same_problem other is)) right.answer_is

  not_wrong : (problem_given answer_given : List ℕ) → Judges text problem_given solved answer_given false → ⊥
  not_wrong problem_given answer_given judges =
      let there = answers_right judges.problem judges.problem_read.problem_is in
      let one = ok_same judges.answer right.answer (sym judges.answer_read.answer_is ∙ there) in
      let told : IsRight judges.problem judges.answer =
      subst (λ (p : ProblemValue). IsRight p judges.answer) (sym (same_problem judges.problem judges.problem_read.problem_is))
      (subst (λ (a : Answer). IsRight right.problem a) (sym one) right.right) in
      false_is_true (judges.exact.1 told)

  by_end : (end : End) (problem_given answer_given written : List ℕ) → CheckWrites end text problem_given solved answer_given written → IsValidOrFailed end
  by_end Valid problem_given answer_given written writes = tt
  by_end NotValid problem_given answer_given written writes = not_wrong problem_given answer_given writes.0
  by_end (Refused the.Problem number line) problem_given answer_given written writes = ok_is_no_fault right.problem (Fault number line) (sym right.problem_is ∙ writes.0)
  by_end (Refused the.Answer number line) problem_given answer_given written writes =
      ok_is_no_fault right.answer (Fault number line) (sym (answers_right writes.0 writes.1.problem_is) ∙ writes.2)
  by_end (Refused the.Commands number line) problem_given answer_given written writes = writes
  by_end (ReadFailed the.Problem) problem_given answer_given written writes = tt
  by_end (ReadFailed the.Answer) problem_given answer_given written writes = tt
  by_end (ReadFailed the.Commands) problem_given answer_given written writes = writes
  by_end WriteFailed problem_given answer_given written writes = tt
  by_end Memory problem_given answer_given written writes = tt
  by_end Solved problem_given answer_given written writes = writes
  by_end Infeasible problem_given answer_given written writes = writes
  by_end Ended problem_given answer_given written writes = writes

pub shown_checks_valid : (check_end : End) (text problem_given answer_given written : List ℕ) (problem : ProblemValue) (m : Moment) (room : ℕ)
    → reads text ≡ Ok problem → m.instance ≡ record (first problem 0) { room = room } → IsAnswered m
    → CheckWrites check_end text problem_given (solution true m) answer_given written → IsValidOrFailed check_end
shown_checks_valid check_end text problem_given answer_given written problem m room read is answered writes =
    by_end text (solution true m) (right_text text problem m room read is answered) check_end problem_given answer_given written writes

pub solved_checks_valid : (end check_end : End) (text given problem_given solved answer_given written : List ℕ)
    → Prints end true text given solved → CheckWrites check_end text problem_given solved answer_given written → IsValidOrFailed check_end
solved_checks_valid end check_end text given problem_given solved answer_given written prints writes =
    let solves = prints.solves in
    shown_checks_valid check_end text problem_given answer_given written solves.problem prints.moment (first solves.problem 0).room solves.problem_read.problem_is
    solves.settled.instance_is solves.settled.answered
    (subst (λ (z : List ℕ). CheckWrites check_end text problem_given z answer_given written) prints.written_is writes)
