use Rattle.std.proofs.Common.{◌≡◌, drop}
use Rattle.checker.specs.Check.{listed_marks, mark_all}
use Rattle.checker.proofs.checking.marks_of.Given as goal

-- with the nodes still to come marked too, all are marked
abbrev pub invariant-loop-id : goal.invariant-loop-id
invariant-loop-id l = mark_all l.marks.items (drop l.id-index l.ids) ≡ listed_marks l.nodes l.ids
