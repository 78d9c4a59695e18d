-- What a whole run of `solve` has written, by where it ends.
use Rattle.std.proofs.Common.{◌≡◌, ℕ, Bool, List, [], take, Option, Some, Ok, Err, inl, inr, refl, sym, ap, append-nil}
use Rattle.std.specs.Io.KnownBytes.{Appends}
use Rattle.dimacs_io.specs.Device.{AppendsBeginning}
use Rattle.dimacs_lines.specs.declared.fault.TextFault.TheVariants as text_fault
use Rattle.dimacs_lines.specs.Stream.{decided}
use Rattle.dimacs_text.specs.Reading.{ProblemValue, problem_rule, reads}
use Rattle.network.specs.Instance.{first}
use Rattle.flow_solver.specs.declared.verdict.Verdict.{Verdict}
use Rattle.flow_solver.specs.declared.verdict.Verdict.TheVariants as verdict
use Rattle.flow_solver.specs.Moment.{Moment}
use Rattle.runs.specs.declared.end.Text.TheVariants as the
use Rattle.runs.specs.declared.end.End.{End}
use Rattle.runs.specs.declared.end.End.TheVariants.{Memory, WriteFailed}
use Rattle.runs.specs.declared.read.ReadError.{ReadError}
use Rattle.runs.specs.declared.read.ReadError.TheVariants as read_error
use Rattle.dimacs_io.specs.declared.device.LastCall.{LastCall}
use Rattle.dimacs_io.specs.declared.device.LastCall.TheVariants as last
use Rattle.runs.specs.Devices.{flushes_by, last_by, problem_failures, write_failures}
use Rattle.runs.specs.Reading.{ReadsKnown, ReadsWhole, error_end}
use Rattle.engines.specs.Printing.{solution}
use Rattle.engines.specs.Opening.{EndsWithoutSession}
use Rattle.engines.specs.Solve.{IsSettled, Solves, Prints, SolveWrites, SolveOnDevices, end_by}
use Rattle.runs.proofs.SourceLemmas.{appended}

-- the problem was not read
problem_end : (e : ReadError) (proof : Bool) (text given : List ℕ) → ReadsWhole (decided problem_rule) reads (Err e) text given → SolveWrites (error_end the.Problem e) proof text given []
problem_end (read_error.Text text_fault.Memory) proof text given is = refl
problem_end _ proof text given is = (is, refl)

SolveOnDevices-problem : (e : ReadError) (proof : Bool) (known : Option (List ℕ)) (count : ℕ) (before : Option (List ℕ)) → ReadsKnown (decided problem_rule) reads (Err e) known count
    → SolveOnDevices (error_end the.Problem e) proof known count before before
SolveOnDevices-problem e proof (Some text) count (Some held) is = ([], ap (λ l. Some l) (sym (append-nil held)), problem_end e proof text (take count text) is)
SolveOnDevices-problem e proof _ count _ is = tt

memory_end : (proof : Bool) (known : Option (List ℕ)) (count : ℕ) (before : Option (List ℕ)) → SolveOnDevices Memory proof known count before before
memory_end proof (Some text) count (Some held) = ([], ap (λ l. Some l) (sym (append-nil held)), refl)
memory_end proof _ count _ = tt

-- no session was opened
pub SolveOnDevices-unopened : (end : End) (proof : Bool) (known : Option (List ℕ)) (count : ℕ) (before : Option (List ℕ)) → EndsWithoutSession known count end
    → SolveOnDevices end proof known count before before
SolveOnDevices-unopened end proof known count before (inl ends) = rw ends.1 (SolveOnDevices-problem ends.0 proof known count before ends.2)
SolveOnDevices-unopened end proof known count before (inr memory) = rw memory (memory_end proof known count before)

solves : (problem : ProblemValue) (m : Moment) (text given : List ℕ) → ReadsWhole (decided problem_rule) reads (Ok problem) text given → IsSettled (first problem 0) m → Solves text given m
solves problem m text given read settled = record {
  problem = problem;
  problem_read = record { whole = read.0; problem_is = read.1 };
  settled = settled;
}

-- the solution was written up to a failed call
pub SolveOnDevices-stopped : (problem : ProblemValue) (m : Moment) (proof : Bool) (known : Option (List ℕ)) (count : ℕ) (before after : Option (List ℕ))
    → ReadsKnown (decided problem_rule) reads (Ok problem) known count → IsSettled (first problem 0) m
    → AppendsBeginning before after (solution proof m) → SolveOnDevices WriteFailed proof known count before after
SolveOnDevices-stopped problem m proof (Some text) count (Some held) after read settled part =
    (part.0, appended held part.0 after part.2, (m, solves problem m text (take count text) read settled, part.1))
SolveOnDevices-stopped problem m proof _ count _ after read settled part = tt

by_verdict : (v : Verdict) (proof : Bool) (text given written : List ℕ) → Prints (end_by v) proof text given written → SolveWrites (end_by v) proof text given written
by_verdict (verdict.Best worth) proof text given written prints = prints
by_verdict (verdict.Infeasible shortage) proof text given written prints = prints

-- the solution was written
pub SolveOnDevices-solved : (problem : ProblemValue) (m : Moment) (proof : Bool) (known : Option (List ℕ)) (count : ℕ) (before after : Option (List ℕ))
    → ReadsKnown (decided problem_rule) reads (Ok problem) known count → IsSettled (first problem 0) m
    → Appends before after (solution proof m) → SolveOnDevices (end_by m.verdict) proof known count before after
SolveOnDevices-solved problem m proof (Some text) count (Some held) after read settled all =
    let prints : Prints (end_by m.verdict) proof text (take count text) (solution proof m) =
    record { moment = m; solves = solves problem m text (take count text) read settled; ends = refl; written_is = refl } in
    (solution proof m, appended held (solution proof m) after all, by_verdict m.verdict proof text (take count text) (solution proof m) prints)
SolveOnDevices-solved problem m proof _ count _ after read settled all = tt

-- where the solution was written, no failed call is counted, and one flush, which is the last call
pub told_counts : (v : Verdict) → (write_failures (end_by v) ≡ 0) × (flushes_by (end_by v) ≡ 1) × ((before : LastCall) → last.Flush ≡ last_by (end_by v) before) × (problem_failures (end_by v) ≡ 0)
told_counts (verdict.Best worth) = (refl, refl, λ before. refl, refl)
told_counts (verdict.Infeasible shortage) = (refl, refl, λ before. refl, refl)
