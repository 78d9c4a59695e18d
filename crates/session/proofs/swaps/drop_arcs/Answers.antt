use Rattle.std.proofs.Common.{arith}
use Rattle.session.proofs.Running.{cut_more}
use Rattle.session.proofs.swaps.drop_arcs.Goals as goal

pub loop-preserved : goal.loop-preserved
loop-preserved c =
    let did = c.drop_last.ensures in
    cut_more c.args.tables.now.moment c.loop.tables.moment c.drop_last.new.self.moment c.drop_last.result.0 c.drop_last.result.1 c.loop.counter (omega arith) (omega arith) c.loop.invariant did.instance did.flow did.rest
