use Rattle.std.proofs.Common.{◌≡◌, Ok, length, take}
use Rattle.network.specs.Edited.{edited_all}
use Rattle.network.specs.Instance.{Instance, arc_at}
use Rattle.network.proofs.Network.arc_after.Given as goal

-- the arc and the number of arcs that the edits so far leave
abbrev pub invariant-loop-edit : goal.invariant-loop-edit
invariant-loop-edit l = (after : Instance) × (edited_all l.self (take l.edit-index l.edits) ≡ Ok after) × (l.row ≡ arc_at after.arcs l.k) × (l.arcs ≡ length after.arcs)
