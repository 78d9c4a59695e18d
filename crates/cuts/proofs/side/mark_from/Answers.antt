use Rattle.cuts.proofs.CutLemmas.{IsGrown-trans}
use Rattle.cuts.proofs.side.mark_from.Goals as goal

pub loop-i-preserved : goal.loop-i-preserved
loop-i-preserved c = IsGrown-trans c.loop-i.invariant c.mark_along.ensures
