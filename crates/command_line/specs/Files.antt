-- The files that a task names.
use Rattle.std.specs.Prelude.{ℕ, List, Option, None, Some}
use Rattle.std.specs.Borrow.{Bor}
use Rattle.command_line.specs.declared.tasks.Task.{Task}
use Rattle.command_line.specs.declared.tasks.Task.TheVariants.{Solve, Session, Check}

-- the file that the problem is in, and the one that the answer is in, where the task names one
abbrev pub problem_file : Task → Option (Bor (List ℕ))
problem_file (Solve proof file) = file
problem_file (Session file extra) = Some file
problem_file (Check file other) = Some file

abbrev pub answer_file : Task → Option (Bor (List ℕ))
answer_file (Solve proof file) = None
answer_file (Session file extra) = None
answer_file (Check file other) = Some other
