use Rattle.std.proofs.Common.{◌≡◌, ◌-◌, length, map}
use Rattle.session.specs.Marks.{IsMovedTo}
use Rattle.session.specs.Session.{present_kind, places_of}
use Rattle.session.proofs.session.Session.undo_steps.Given as goal

-- so many moments
abbrev pub invariant-loop : goal.invariant-loop
invariant-loop g l = record {
  moved : IsMovedTo (length l.fn.self.moments.past - l.counter) l.fn.self.moments l.self.moments;
  places : map places_of l.self.records ≡ map places_of l.fn.self.records;
  marks : l.self.marks ≡ l.fn.self.marks;
  kind : present_kind l.self.moments ≡ present_kind l.fn.self.moments;
}
