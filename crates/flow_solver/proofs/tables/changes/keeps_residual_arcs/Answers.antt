use Rattle.std.proofs.Common.{◌∙◌, ap, rules, sym, w64, to_z}
use Rattle.std.proofs.lemmas.Int.{to_z-of_z}
use Rattle.std.proofs.lemmas.Bool.{false≢true}
use Rattle.flow_solver.proofs.tables.changes.keeps_residual_arcs.Goals as goal

pub returns-then-keeps_room : goal.returns-then-keeps_room
returns-then-keeps_room c =
    let a = c.args.old.now in
    let b = c.args.row.now in
    let x = to_z-of_z w64 c.args.before (search rules) in
    let y = to_z-of_z w64 c.args.flow (search rules) in
    let cost = sym (to_z-of_z w64 b.cost (search rules)) ∙ ap (to_z w64) c.if-row-old.false ∙ to_z-of_z w64 a.cost (search rules) in
    let ahead = rw (x, to_z-of_z w64 a.cap (search rules), y, to_z-of_z w64 b.cap (search rules)) at c.keeps_room.ensures in
    let behind = rw (to_z-of_z w64 a.low (search rules), x, to_z-of_z w64 b.low (search rules), y) at c.keeps_room-then-keeps_room.ensures in
    (λ yes. record { same_cost = cost; ahead = ahead.0 c.if-keeps_room.true; behind = behind.0 yes }, λ kept. behind.1 kept.behind)

pub returns-else-keeps_room : goal.returns-else-keeps_room
returns-else-keeps_room c =
    let a = c.args.old.now in
    let b = c.args.row.now in
    let x = to_z-of_z w64 c.args.before (search rules) in
    let y = to_z-of_z w64 c.args.flow (search rules) in
    let ahead = rw (x, to_z-of_z w64 a.cap (search rules), y, to_z-of_z w64 b.cap (search rules)) at c.keeps_room.ensures in
    (λ yes. absurd (false≢true (sym c.if-keeps_room.false ∙ yes)), λ kept. ahead.1 kept.ahead)
