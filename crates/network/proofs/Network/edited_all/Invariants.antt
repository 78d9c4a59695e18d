use Rattle.std.proofs.Common.{take}
use Rattle.std.specs.Result.{IsOk}
use Rattle.network.specs.Edited.{edited_all}
use Rattle.network.proofs.Network.edited_all.Given as goal

-- the edits so far can be made
abbrev pub invariant-loop-i : goal.invariant-loop-i
invariant-loop-i l = IsOk (edited_all l.self (take l.i l.edits))
