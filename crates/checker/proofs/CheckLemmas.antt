-- What a whole check has written, by where it ends.
use Rattle.std.proofs.Common.{◌≡◌, ◌↔◌, IsTrue, ℕ, Bool, true, false, List, [], length, take, Option, None, Some, Result, Ok, Err, refl, sym, ap, append-nil, if◌then◌else◌, subst}
use Rattle.std.specs.Io.KnownBytes.{Appends}
use Rattle.dimacs_io.specs.Device.{AppendsBeginning}
use Rattle.answer_text.specs.declared.answer.Answer.{Answer}
use Rattle.dimacs_lines.specs.declared.fault.TextFault.TheVariants as text_fault
use Rattle.dimacs_lines.specs.Stream.{decided}
use Rattle.dimacs_text.specs.Reading.{ProblemValue, problem_rule, reads}
use Rattle.answer_text.specs.Answer.{answer_rule, answers}
use Rattle.runs.specs.declared.end.Text.TheVariants as the
use Rattle.runs.specs.declared.end.End.TheVariants.{Valid, NotValid, WriteFailed}
use Rattle.runs.specs.declared.read.ReadError.{ReadError}
use Rattle.runs.specs.declared.read.ReadError.TheVariants as read_error
use Rattle.runs.specs.Reading.{IsProblemText, ReadsKnown, ReadsWhole, error_end}
use Rattle.runs.proofs.SourceLemmas.{appended}
use Rattle.checker.specs.Check.{Judges, CheckWrites, CheckOnDevices, IsRight, verdict_line}

-- ---- by the size of the problem

pub ReadsKnown-sized : (nodes arcs n a : ℕ) → nodes ≡ n → arcs ≡ a → (result : Result Answer ReadError) (known : Option (List ℕ)) (count : ℕ)
    → ReadsKnown (decided (answer_rule nodes arcs)) (answers nodes arcs) result known count → ReadsKnown (decided (answer_rule n a)) (answers n a) result known count
ReadsKnown-sized nodes arcs n a p q result known count is =
    let P : ℕ → ℕ → Type 0 = λ n a. ReadsKnown (decided (answer_rule n a)) (answers n a) result known count in
    subst (λ a. P n a) q (subst (λ n. P n arcs) p is)

-- ---- the ends

-- the problem was not read
problem_end : (e : ReadError) (text given answer answer_given : List ℕ) → ReadsWhole (decided problem_rule) reads (Err e) text given
    → CheckWrites (error_end the.Problem e) text given answer answer_given []
problem_end (read_error.Text text_fault.Memory) text given answer answer_given is = refl
problem_end (read_error.Text (text_fault.Fault number line)) text given answer answer_given is = (is, refl)
problem_end read_error.Source text given answer answer_given is = (is, refl)

pub CheckOnDevices-problem : (e : ReadError) (known : Option (List ℕ)) (count : ℕ) (answer : Option (List ℕ)) (answer_count : ℕ) (before : Option (List ℕ))
    → ReadsKnown (decided problem_rule) reads (Err e) known count → CheckOnDevices (error_end the.Problem e) known count answer answer_count before before
CheckOnDevices-problem e None count answer answer_count before is = tt
CheckOnDevices-problem e (Some text) count None answer_count before is = tt
CheckOnDevices-problem e (Some text) count (Some answer) answer_count None is = tt
CheckOnDevices-problem e (Some text) count (Some answer) answer_count (Some held) is =
    ([], ap (λ l. Some l) (sym (append-nil held)), problem_end e text (take count text) answer (take answer_count answer) is)

-- the answer was not read
answer_end : (e : ReadError) (problem : ProblemValue) (whole came text given : List ℕ) → IsProblemText whole came problem
    → ReadsWhole (decided (answer_rule problem.nodes (length problem.arcs))) (answers problem.nodes (length problem.arcs)) (Err e) text given
    → CheckWrites (error_end the.Answer e) whole came text given []
answer_end (read_error.Text text_fault.Memory) problem whole came text given reads is = refl
answer_end (read_error.Text (text_fault.Fault number line)) problem whole came text given reads is = (problem, reads, is, refl)
answer_end read_error.Source problem whole came text given reads is = (problem, reads, is, refl)

pub CheckOnDevices-answer : (e : ReadError) (problem : ProblemValue) (known : Option (List ℕ)) (count : ℕ) (answer : Option (List ℕ)) (answer_count : ℕ) (before : Option (List ℕ))
    → ReadsKnown (decided problem_rule) reads (Ok problem) known count
    → ReadsKnown (decided (answer_rule problem.nodes (length problem.arcs))) (answers problem.nodes (length problem.arcs)) (Err e) answer answer_count
    → CheckOnDevices (error_end the.Answer e) known count answer answer_count before before
CheckOnDevices-answer e problem None count answer answer_count before reads is = tt
CheckOnDevices-answer e problem (Some whole) count None answer_count before reads is = tt
CheckOnDevices-answer e problem (Some whole) count (Some text) answer_count None reads is = tt
CheckOnDevices-answer e problem (Some whole) count (Some text) answer_count (Some held) reads is =
    ([], ap (λ l. Some l) (sym (append-nil held)), answer_end e problem whole _ text _ (record { whole = reads.0; problem_is = reads.1 }) is)

-- both texts were read to their ends, and the answer was judged
pub record AreJudged (right : Bool) (known : Option (List ℕ)) (count : ℕ) (answer_known : Option (List ℕ)) (answer_count : ℕ) : Type 0 where
  pub problem : ProblemValue
  pub problem_read : ReadsKnown (decided problem_rule) reads (Ok problem) known count
  pub answer : Answer
  pub answer_read : ReadsKnown (decided (answer_rule problem.nodes (length problem.arcs))) (answers problem.nodes (length problem.arcs)) (Ok answer) answer_known answer_count
  pub exact : IsTrue right ↔ IsRight problem answer

judges : (right : Bool) (whole : List ℕ) (count : ℕ) (text : List ℕ) (answer_count : ℕ) → AreJudged right (Some whole) count (Some text) answer_count
    → Judges whole (take count whole) text (take answer_count text) right
judges right whole count text answer_count judged = record {
  problem = judged.problem;
  problem_read = record { whole = judged.problem_read.0; problem_is = judged.problem_read.1 };
  answer = judged.answer;
  answer_read = record { whole = judged.answer_read.0; answer_is = judged.answer_read.1 };
  exact = judged.exact;
}

-- the verdict was written up to a failed call
pub CheckOnDevices-stopped : (right : Bool) (known : Option (List ℕ)) (count : ℕ) (answer_known : Option (List ℕ)) (answer_count : ℕ) (before after : Option (List ℕ))
    → AreJudged right known count answer_known answer_count → AppendsBeginning before after (verdict_line right)
    → CheckOnDevices WriteFailed known count answer_known answer_count before after
CheckOnDevices-stopped right None count answer_known answer_count before after judged part = tt
CheckOnDevices-stopped right (Some whole) count None answer_count before after judged part = tt
CheckOnDevices-stopped right (Some whole) count (Some text) answer_count None after judged part = tt
CheckOnDevices-stopped right (Some whole) count (Some text) answer_count (Some held) after judged part =
    (part.0, appended held part.0 after part.2, (right, judges right whole count text answer_count judged, part.1))

verdict : (right : Bool) (whole came text given : List ℕ) → Judges whole came text given right → CheckWrites (if right then Valid else NotValid) whole came text given (verdict_line right)
verdict true whole came text given judged = (judged, refl)
verdict false whole came text given judged = (judged, refl)

-- the verdict was written
pub CheckOnDevices-judged : (right : Bool) (known : Option (List ℕ)) (count : ℕ) (answer_known : Option (List ℕ)) (answer_count : ℕ) (before after : Option (List ℕ))
    → AreJudged right known count answer_known answer_count → Appends before after (verdict_line right)
    → CheckOnDevices (if right then Valid else NotValid) known count answer_known answer_count before after
CheckOnDevices-judged right None count answer_known answer_count before after judged all = tt
CheckOnDevices-judged right (Some whole) count None answer_count before after judged all = tt
CheckOnDevices-judged right (Some whole) count (Some text) answer_count None after judged all = tt
CheckOnDevices-judged right (Some whole) count (Some text) answer_count (Some held) after judged all =
    (verdict_line right, appended held (verdict_line right) after all, verdict right whole _ text _ (judges right whole count text answer_count judged))
