use Rattle.std.proofs.Common.{◌≡◌, take}
use Rattle.checker.specs.Check.{flow_of_lines}
use Rattle.checker.proofs.checking.flow_of_lines.Given as goal

abbrev pub invariant-loop-line : goal.invariant-loop-line
invariant-loop-line l = record { flow : l.flow.items ≡ flow_of_lines (take l.line-index l.lines) }
