use Rattle.std.proofs.Common.{◌≡◌, drop}
use Rattle.dimacs_text.specs.Problem.{source_of}
use Rattle.network.proofs.start.source_of.Given as goal

-- what is still to come tells the answer
abbrev pub invariant-loop-mark : goal.invariant-loop-mark
invariant-loop-mark l = source_of (drop l.mark-index l.marks) ≡ source_of l.marks
