-- What a run has done to its devices when it ends, by how it ends.
use Rattle.std.specs.Prelude.{◌≡◌, ℕ, Bool, true, false}
use Rattle.dimacs_io.specs.Device.{Fails}
use Rattle.dimacs_io.specs.declared.device.LastCall.{LastCall}
use Rattle.dimacs_io.specs.declared.device.LastCall.TheVariants as last
use Rattle.dimacs_io.specs.declared.device.Sink as sink
use Rattle.dimacs_io.specs.declared.device.Source as source
use Rattle.runs.specs.declared.end.Text.TheVariants as the
use Rattle.runs.specs.declared.end.End.{End}
use Rattle.runs.specs.declared.end.End.TheVariants.{Solved, Infeasible, Ended, Valid, NotValid, Refused, ReadFailed, WriteFailed, Memory}
use Rattle.runs.specs.Reading.{SourceIsRead}

-- ---- which texts were read to their ends

-- the problem, unless a fault of it was found, a read of it failed or memory was refused
abbrev pub problem_whole : End → Bool
problem_whole (Refused the.Problem number line) = false
problem_whole (ReadFailed the.Problem) = false
problem_whole Memory = false
problem_whole _ = true

-- the answer, where it is judged
abbrev pub answer_whole : End → Bool
answer_whole Valid = true
answer_whole NotValid = true
answer_whole WriteFailed = true
answer_whole _ = false

-- the commands, where they are answered to the last
abbrev pub commands_whole : End → Bool
commands_whole Ended = true
commands_whole _ = false

-- ---- how many calls failed on each device

abbrev pub problem_failures : End → ℕ
problem_failures (ReadFailed the.Problem) = 1
problem_failures _ = 0

abbrev pub answer_failures : End → ℕ
answer_failures (ReadFailed the.Answer) = 1
answer_failures _ = 0

abbrev pub command_failures : End → ℕ
command_failures (ReadFailed the.Commands) = 1
command_failures _ = 0

abbrev pub write_failures : End → ℕ
write_failures WriteFailed = 1
write_failures _ = 0

-- ---- how many flushes of the sink went well, of a run that does not answer commands

abbrev pub flushes_by : End → ℕ
flushes_by Solved = 1
flushes_by Infeasible = 1
flushes_by Valid = 1
flushes_by NotValid = 1
flushes_by _ = 0

-- ---- what the last call on the sink did

-- by what it did before: there was none where a text was not read or memory was refused; else all that was written is
-- passed on, or the last call is the one that failed
abbrev pub last_by : End → LastCall → LastCall
last_by WriteFailed before = last.Failure
last_by (Refused input number line) before = before
last_by (ReadFailed the.Problem) before = before
last_by (ReadFailed the.Answer) before = before
last_by Memory before = before
last_by _ before = last.Flush

-- ---- each device, as one fact

-- what the source gave before stays, and its text was read to its end where this is asked; so many of its calls failed,
-- and one that did was the last
pub record UsesSource {S : Type 0} (device : source.Ghosts S) (whole : Bool) (failures : ℕ) (old new : S) : Type 0 where
  pub read : SourceIsRead whole device.given device.ended old new
  pub failed : Fails failures device.failures old new
  pub last : failures ≡ 1 → device.last_failed new ≡ true

-- the end tells of each call of the sink that failed, and of the last call
pub record UsesSink {O : Type 0} (device : sink.Ghosts O) (end : End) (old new : O) : Type 0 where
  pub failed : Fails (write_failures end) device.failures old new
  pub last : device.last_call new ≡ last_by end (device.last_call old)
