use Rattle.std.proofs.Common.{ℤ, FitsSigned, w64, rules, arith, length-set}
use Rattle.relaxation.proofs.TableLemmas.{AreWithin-put}
use Rattle.relaxation.proofs.proposal.take_all.Goals as goal

pub loop-v-preserved : goal.loop-v-preserved
loop-v-preserved c =
    let fits : FitsSigned w64 c.nearest.result = search rules in
    record {
      same_length = omega (arith, length-set {A = ℤ});
      within = AreWithin-put _ _ _ _ fits c.loop-v.invariant.within c.nearest.ensures;
    }
