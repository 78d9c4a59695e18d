use Rattle.session.specs.Parts.{named, listed, named_turned}
use Rattle.session.proofs.Running.{IsRun, all_put}
use Rattle.session.proofs.swaps.swap_parts.Given as goal

-- the parts up to the index are exchanged, and the rest leave what all are to leave
abbrev pub invariant-loop-part : goal.invariant-loop-part
invariant-loop-part l =
    let N = named l.fn.parts in
    IsRun l.next l.part-index l.parts l.tables.moment (listed (named_turned N l.fn.tables.moment)) (all_put N l.fn.tables.moment)
