use Rattle.std.proofs.Common.{w64}
use Rattle.std.proofs.lemmas.Int.{to_z-of_z}
use Rattle.flow_solver.proofs.BalanceLemmas.{IsCarried-both}
use Rattle.flow_solver.proofs.balance.carry_over.Goals as goal

pub returns : goal.returns
returns c =
    let before = to_z-of_z w64 c.args.before c.ranges.before in
    let after = to_z-of_z w64 c.args.after c.ranges.after in
    IsCarried-both c.args.row.now c.args.before c.args.after c.args.excess.now c.add_difference.new.excess c.add_difference-2.new.excess
    (rw (before, after) at c.add_difference.ensures) (rw (before, after) at c.add_difference-2.ensures)
