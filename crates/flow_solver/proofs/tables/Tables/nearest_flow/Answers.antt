use Rattle.std.proofs.Common.{rules, w64}
use Rattle.std.proofs.lemmas.Int.{to_z-of_z}
use Rattle.flow_solver.proofs.tables.Tables.nearest_flow.Goals as goal

pub returns : goal.returns
returns c =
    rw (to_z-of_z w64 c.nearest.result (search rules))
    (rw (to_z-of_z w64 c.reduced_by.result (search rules), c.reduced_by.ensures, c.potentials.ensures.value, to_z-of_z w64 c.args.flow (search rules)) at c.nearest.ensures)
