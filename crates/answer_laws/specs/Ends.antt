-- How a run of `check` ends over a right answer.
use Rattle.std.specs.Prelude.{⊤}
use Rattle.runs.specs.declared.end.Text.TheVariants as the
use Rattle.runs.specs.declared.end.End.{End}
use Rattle.runs.specs.declared.end.End.TheVariants.{Solved, Infeasible, Ended, Valid, NotValid, Refused, ReadFailed, WriteFailed, Memory}

-- the answer is valid, or a read, a write or memory failed before it was told; it is neither refused nor wrong
abbrev pub IsValidOrFailed : End → Type 0
IsValidOrFailed Valid = ⊤
IsValidOrFailed (ReadFailed the.Problem) = ⊤
IsValidOrFailed (ReadFailed the.Answer) = ⊤
IsValidOrFailed WriteFailed = ⊤
IsValidOrFailed Memory = ⊤
IsValidOrFailed (ReadFailed the.Commands) = ⊥
IsValidOrFailed NotValid = ⊥
IsValidOrFailed (Refused input number line) = ⊥
IsValidOrFailed Solved = ⊥
IsValidOrFailed Infeasible = ⊥
IsValidOrFailed Ended = ⊥
