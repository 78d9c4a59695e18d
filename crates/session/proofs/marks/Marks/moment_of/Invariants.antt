use Rattle.std.proofs.Common.{◌≡◌, drop}
use Rattle.session.specs.Marks.{marked}
use Rattle.session.proofs.marks.Marks.moment_of.Given as goal

-- none of the marks up to the index has the name
abbrev pub invariant-loop-mark : goal.invariant-loop-mark
invariant-loop-mark l = marked l.self l.name ≡ marked (drop l.mark-index l.mark-items) l.name
