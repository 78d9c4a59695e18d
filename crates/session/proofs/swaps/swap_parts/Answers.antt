use Rattle.std.proofs.Common.{◌-◌, length, arith}
use Rattle.session.specs.Parts.{named, listed, named_turned}
use Rattle.session.proofs.Running.{all_put, run_start, runs, run_end, rows_there}
use Rattle.session.proofs.swaps.swap_parts.Goals as goal

pub loop-part-init : goal.loop-part-init
loop-part-init c =
    let ps = c.args.parts.now in
    let m = c.args.tables.now.moment in
    rw (c.flow.ensures.one_an_arc, c.arcs_that_go-go.ensures) (run_start (length m.instance.arcs - (named ps).go) ps m (listed (named_turned (named ps) m)) (all_put (named ps) m) (runs ps m c.requires.fit c.requires.lawful c.requires.one_an_arc))

pub drop_arcs-requires-clause-rows : goal.drop_arcs-requires-clause-rows
drop_arcs-requires-clause-rows c =
    let end = run_end c.loop-part.next c.loop-part.part-index c.loop-part.parts c.loop-part.tables.moment _ _ (omega arith) c.loop-part.invariant in
    rw (end.1, c.arcs_that_go-go.ensures) (rows_there c.args.parts.now c.args.tables.now.moment c.requires.fit c.requires.lawful c.requires.one_an_arc)
