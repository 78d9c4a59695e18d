use Rattle.std.proofs.Common.{◌<◌, ◌^◌, arith, rules}
use Rattle.flow_solver.proofs.EditRows.{number_in}
use Rattle.flow_solver.proofs.edit.arc_of.Goals as goal

pub overflow_cast-k : goal.overflow_cast-k
overflow_cast-k c =
    let at = number_in c.args.net.now.arcs c.args.k c.requires.there.0 c.requires.there.1 in
    let bound : c.args.k < 2 ^ 32 = omega (arith, at.1, c.requires.lawful.count, c.requires.lawful.room) in
    search (rules, bound)
