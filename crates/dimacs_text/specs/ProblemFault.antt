-- The faults of problem texts: their numbers, and the fault of a line as one of them.
use Rattle.std.specs.Prelude.{ℕ, Result}
use Rattle.dimacs_lines.specs.declared.fault.LineFault.{LineFault}
use Rattle.dimacs_lines.specs.Fault.{number_of as number_in_line}
use Rattle.dimacs_lines.specs.Checks.{held_as}
use Rattle.dimacs_text.specs.declared.problem_fault.ProblemFault.{ProblemFault}
use Rattle.dimacs_text.specs.declared.problem_fault.ProblemFault.TheVariants as fault

abbrev pub number_of : ProblemFault → ℕ
number_of (fault.Line e) = number_in_line e
number_of fault.BeforeProblemLine = 6
number_of fault.SecondProblemLine = 7
number_of fault.UnknownKind = 8
number_of fault.NodeAfterArc = 9
number_of fault.NamedTwice = 10
number_of fault.EndpointMissing = 11
number_of fault.TooManyArcs = 12
number_of fault.TooFewArcs = 13
number_of fault.NoProblemLine = 14
number_of fault.LowAboveCap = 15
number_of fault.NotAcrossSides = 16
number_of fault.UnknownNodeWord = 17

-- a check of a line by itself
abbrev pub in_line : {A : Type 0} → Result A LineFault → Result A ProblemFault
in_line read = held_as (λ e. fault.Line e) read
