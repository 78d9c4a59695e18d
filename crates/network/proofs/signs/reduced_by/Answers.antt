use Rattle.std.proofs.Common.{arith}
use Rattle.std.proofs.lemmas.Int.{ints}
use Rattle.network.proofs.signs.reduced_by.Goals as goal

pub reduced_cost-requires-clause-difference : goal.reduced_cost-requires-clause-difference
reduced_cost-requires-clause-difference c =
    let tail = c.requires.range c.args.arc.now.tail c.requires.tail in
    let head = c.requires.range c.args.arc.now.head c.requires.head in
    omega (arith, ints, tail.0, tail.1, head.0, head.1, c.requires.cost.0, c.requires.cost.1)
