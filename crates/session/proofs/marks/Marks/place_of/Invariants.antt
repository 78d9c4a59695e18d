use Rattle.std.proofs.Common.{◌≡◌, ◌+◌, drop}
use Rattle.session.specs.Marks.{place_of}
use Rattle.session.proofs.marks.Marks.place_of.Given as goal

-- none of the marks up to the index has the name
abbrev pub invariant-loop-mark : goal.invariant-loop-mark
invariant-loop-mark l = record {
  counted : l.place ≡ l.mark-index;
  none : place_of l.self l.name ≡ l.place + place_of (drop l.mark-index l.mark-items) l.name;
}
