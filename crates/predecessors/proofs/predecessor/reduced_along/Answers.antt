use Rattle.std.proofs.Common.{arith}
use Rattle.std.proofs.lemmas.Int.{ints}
use Rattle.residual_graph.proofs.RowLemmas.{cost_of-bounds}
use Rattle.predecessors.proofs.predecessor.reduced_along.Goals as goal

pub reduced_cost-requires-clause-sum : goal.reduced_cost-requires-clause-sum
reduced_cost-requires-clause-sum c =
    let bounds = cost_of-bounds _ c.args.row.now c.args.way c.requires.row in
    let p = c.requires.labels in
    omega (arith, ints, bounds, c.unit_cost.ensures, p.at_least c.start-start.result, p.at_most c.start-start.result)

pub reduced_cost-requires-clause-difference : goal.reduced_cost-requires-clause-difference
reduced_cost-requires-clause-difference c =
    let bounds = cost_of-bounds _ c.args.row.now c.args.way c.requires.row in
    let p = c.requires.labels in
    omega (arith, ints, bounds, c.unit_cost.ensures, p.at_least c.start-start.result, p.at_most c.start-start.result, p.at_least c.end-end.result, p.at_most c.end-end.result)

pub returns : goal.returns
returns c =
    let bounds = cost_of-bounds _ c.args.row.now c.args.way c.requires.row in
    let p = c.requires.labels in
    rw (← c.start-start.ensures, ← c.end-end.ensures) (omega (arith, ints, bounds, c.unit_cost.ensures, c.reduced_cost.ensures, p.at_least c.start-start.result, p.at_most c.start-start.result, p.at_least c.end-end.result, p.at_most c.end-end.result))
