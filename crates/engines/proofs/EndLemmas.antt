-- How runs end where no call fails and memory is found.
use Rattle.std.proofs.Common.{◌≡◌, ◌≢◌, ℕ, Bool, List, length, Option, Some, Ok, inl, inr, refl}
use Rattle.std.specs.Prelude.{◌⊎◌}
use Rattle.answer_text.specs.Answer.{answers}
use Rattle.dimacs_text.specs.Reading.{ProblemValue, reads}
use Rattle.answer_text.specs.declared.answer.Answer.{Answer}
use Rattle.checker.specs.Check.{CheckOnDevices}
use Rattle.runs.specs.Devices.{answer_failures, command_failures, problem_failures, write_failures}
use Rattle.runs.specs.declared.end.Text.TheVariants as the
use Rattle.runs.specs.declared.end.End.{End}
use Rattle.runs.specs.declared.end.End.TheVariants.{Solved, Infeasible, Ended, Valid, NotValid, Refused, ReadFailed, WriteFailed, Memory}
use Rattle.engines.specs.Session.{SessionOnDevices}
use Rattle.engines.specs.Solve.{SolveOnDevices}

pub session : (end : End) (extra : ℕ) (problem : ProblemValue) (text commands held : List ℕ) (count read : ℕ) (after : Option (List ℕ))
    → reads text ≡ Ok problem → SessionOnDevices end extra (Some text) count (Some commands) read (Some held) after
    → problem_failures end ≡ 0 → command_failures end ≡ 0 → write_failures end ≡ 0 → end ≢ Memory → end ≡ Ended
session Ended extra problem text commands held count read after is wrote p c w m = refl
session (ReadFailed the.Commands) extra problem text commands held count read after is wrote p c w m = cc
session (ReadFailed the.Problem) extra problem text commands held count read after is wrote p c w m = cc
session WriteFailed extra problem text commands held count read after is wrote p c w m = cc
session (Refused the.Problem number line) extra problem text commands held count read after is wrote p c w m = cc (is, wrote.2.0)
session Memory extra problem text commands held count read after is wrote p c w m = absurd (m refl)
session _ extra problem text commands held count read after is wrote p c w m = absurd wrote.2

pub solve : (end : End) (proof : Bool) (problem : ProblemValue) (text held : List ℕ) (count : ℕ) (after : Option (List ℕ))
    → reads text ≡ Ok problem → SolveOnDevices end proof (Some text) count (Some held) after
    → problem_failures end ≡ 0 → write_failures end ≡ 0 → end ≢ Memory → (end ≡ Solved) ⊎ (end ≡ Infeasible)
solve Solved proof problem text held count after is wrote p w m = inl refl
solve Infeasible proof problem text held count after is wrote p w m = inr refl
solve (Refused the.Problem number line) proof problem text held count after is wrote p w m = absurd (cc (is, wrote.2.0))
solve (ReadFailed the.Problem) proof problem text held count after is wrote p w m = cc
solve WriteFailed proof problem text held count after is wrote p w m = cc
solve Memory proof problem text held count after is wrote p w m = absurd (m refl)
solve _ proof problem text held count after is wrote p w m = absurd wrote.2

pub check : (end : End) (problem : ProblemValue) (answer : Answer) (text said held : List ℕ) (count read : ℕ) (after : Option (List ℕ))
    → reads text ≡ Ok problem → answers problem.nodes (length problem.arcs) said ≡ Ok answer → CheckOnDevices end (Some text) count (Some said) read (Some held) after
    → problem_failures end ≡ 0 → answer_failures end ≡ 0 → write_failures end ≡ 0 → end ≢ Memory → (end ≡ Valid) ⊎ (end ≡ NotValid)
check Valid problem answer text said held count read after is also wrote p a w m = inl refl
check NotValid problem answer text said held count read after is also wrote p a w m = inr refl
check (Refused the.Problem number line) problem answer text said held count read after is also wrote p a w m = absurd (cc (is, wrote.2.0))
check (Refused the.Answer number line) problem answer text said held count read after is also wrote p a w m =
    let (other, read_is, faulty, none) = wrote.2 in
    let same : other ≡ problem = cc (is, read_is.problem_is) in
    absurd (cc (also, rw same at faulty))
check (ReadFailed the.Problem) problem answer text said held count read after is also wrote p a w m = cc
check (ReadFailed the.Answer) problem answer text said held count read after is also wrote p a w m = cc
check WriteFailed problem answer text said held count read after is also wrote p a w m = cc
check Memory problem answer text said held count read after is also wrote p a w m = absurd (m refl)
check _ problem answer text said held count read after is also wrote p a w m = absurd wrote.2
