-- What is told of how a run ends: the exit status, and the line on the standard error.
use Rattle.std.specs.Prelude.{ℕ, List, [], ◌++◌, codes}
use Rattle.std.specs.Fmt.{decimal}
use Rattle.runs.specs.declared.end.Text.{Text}
use Rattle.runs.specs.declared.end.Text.TheVariants as the
use Rattle.runs.specs.declared.end.End.{End}
use Rattle.runs.specs.declared.end.End.TheVariants.{Solved, Infeasible, Ended, Valid, NotValid, Refused, ReadFailed, WriteFailed, Memory}

-- 0 where all went well, 1 for the other answer, 3 for a fault in a text, 4 for a failed read or write, 5 for want of
-- memory
abbrev pub status_of : End → ℕ
status_of Solved = 0
status_of Infeasible = 1
status_of Ended = 0
status_of Valid = 0
status_of NotValid = 1
status_of (Refused input number line) = 3
status_of (ReadFailed input) = 4
status_of WriteFailed = 4
status_of Memory = 5

abbrev pub text_name : Text → List ℕ
text_name the.Problem = codes "problem"
text_name the.Answer = codes "answer"
text_name the.Commands = codes "commands"

-- the line on the standard error, where there is one
abbrev pub told : End → List ℕ
told Solved = []
told Infeasible = []
told Ended = []
told Valid = []
told NotValid = []
told (Refused input number line) = codes "mcf: " ++ text_name input ++ codes " line " ++ decimal line ++ codes ": fault " ++ decimal number ++ codes "\n"
told (ReadFailed input) = codes "mcf: " ++ text_name input ++ codes ": read failed\n"
told WriteFailed = codes "mcf: output: write failed\n"
told Memory = codes "mcf: want of memory\n"
