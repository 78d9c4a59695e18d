use Rattle.std.proofs.Common.{◌≡◌, drop}
use Rattle.dimacs_text.specs.Problem.{sink_of}
use Rattle.network.proofs.start.sink_of.Given as goal

-- what is still to come tells the answer
abbrev pub invariant-loop-mark : goal.invariant-loop-mark
invariant-loop-mark l = sink_of (drop l.mark-index l.marks) ≡ sink_of l.marks
