use Rattle.std.proofs.Common.{◌≤◌, ◌*◌, take}
use Rattle.std.specs.Prelude.{vec_capacity}
use Rattle.network.specs.Ends.{AreEndLists}
use Rattle.network.specs.Representation.{ends_in}
use Rattle.network.proofs.edit.list_ends.Given as goal

-- the ends of the arcs so far are listed
abbrev pub invariant-loop-arc : goal.invariant-loop-arc
invariant-loop-arc l = record {
  lists : AreEndLists l.nodes (take l.arc-index l.arcs) (ends_in l.first.items) (ends_in l.next.items);
  room : 2 * l.room ≤ vec_capacity l.next;
}
