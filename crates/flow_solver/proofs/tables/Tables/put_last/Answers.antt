use Rattle.std.proofs.Common.{◌∙◌, ◌+◌, ◌<◌, ◌≤◌, ℤ, List, ap, arith, length, rules, subst, sym, w64, to_z, of_z}
use Rattle.std.specs.Int.{w128}
use Rattle.std.proofs.lemmas.Int.{to_z-of_z}
use Rattle.std.proofs.lemmas.List.{length-append}
use Rattle.dimacs_text.specs.declared.problem.ArcRow.{ArcRow}
use Rattle.network.specs.Instance.{Demand, Instance, reduced_arcs}
use Rattle.flow_solver.specs.TablesView.{TablesView}
use Rattle.augmentation.proofs.NearLemmas.{step_kept}
use Rattle.flow_solver.proofs.CarryLemmas.{balance_put}
use Rattle.flow_solver.proofs.HeldTables.{held_put}
use Rattle.tracked.proofs.TrackedLemmas.{IsWritten-same}
use Rattle.flow_solver.proofs.TablesViewLemmas.{fit_again}
use Rattle.flow_solver.proofs.tables.Tables.put_last.Goals as goal

pub invariant_of-self : goal.invariant_of-self
invariant_of-self c =
    let t = c.self.inside in
    let I = t.graph.net in
    let J = c.push_arc.new.self.net in
    let inv = c.self.invariant in
    let many = ap (λ (xs : List ℤ). length xs) c.push.ensures.entries ∙ length-append t.flow.entries _ in
    let many_whole = ap (λ (xs : List ℤ). length xs) c.push.ensures.whole ∙ length-append t.flow.whole _ in
    let one_more = ap (λ (r : List ArcRow). length r) c.push_arc.ensures.rows ∙ length-append t.graph.rows _ in
    let now = record t.balance { excess = c.carry_over.new.excess; cost = to_z w128 (of_z w128 c.reprice-self-inside.result) } in
    let added = ap (λ (r : List ArcRow). length r) c.rows-added.ensures in
    let flow = to_z-of_z w64 c.args.flow (search rules) in
    let cost = to_z-of_z w128 c.reprice-self-inside.result (record { sfits = c.reprice-self-inside.type_inv })
    ∙ (rw (to_z-of_z w128 t.balance.cost (search rules), flow, to_z-of_z w64 c.args.row.cost (search rules)) at c.reprice-self-inside.ensures) in
    let carried = rw flow at c.carry_over.ensures in
    let balance = balance_put I J t.graph.rows c.push_arc.new.self.rows t.flow c.push.new.self t.balance now c.args.row c.args.flow c.push_arc.ensures.net c.push_arc.ensures.rows
    inv.flow_in inv.flow_whole (rw flow at c.push.ensures.entries) (rw flow at c.push.ensures.whole) carried cost inv.balance_is in
    record {
      fit = fit_again t.graph c.push_arc.new.self t.flow c.push.new.self t.potentials.table t.potentials.table t.cut t.cut t.scratch _ inv.fit
          (ap (λ (K : Instance). K.nodes) c.push_arc.ensures.net) (ap (λ (K : Instance). K.room) c.push_arc.ensures.net) c.push_arc.ensures.graph
          (omega (arith, many, inv.flow_in, one_more)) (omega (arith, many_whole, inv.flow_whole, one_more))
          c.push.ensures.room (IsWritten-same t.potentials.table) inv.idle (IsWritten-same t.cut) (ap length c.note_all.ensures.held.labels ∙ inv.scratch_in);
      balance_is = balance;
      told = λ none. cc;
      held = held_put t.graph.rows t.flow.whole t.scratch.tree c.note_all.new.self.tree c.note_all.ensures.held inv.held c.push_arc.new.self.rows c.push.new.self.whole (length c.rows-added.result.now) c.args.row c.args.flow c.push_arc.ensures.rows (rw flow at c.push.ensures.whole) inv.flow_whole added c.note_all.ensures.noted;
      step = step_kept t.scratch.tree c.note_all.new.self.tree c.note_all.ensures.held t.potentials.table.entries inv.step;
      log_fits = inv.log_fits;
      before_is = tt;
    }

one_more : (D : Demand) (arcs : List ArcRow) → length (reduced_arcs D arcs) ≤ length arcs + 1
one_more D arcs = grind arith

pub push-requires : goal.push-requires
push-requires c =
    let I = c.self.inside.graph.net in
    let inv = c.self.invariant in
    let room = subst (λ (b : TablesView). length b.moment.instance.arcs < b.moment.instance.room) (sym c.self.view_is) c.requires.room in
    record { room = omega (arith, inv.flow_in, ap (λ (r : List ArcRow). length r) inv.graph.rows.rows_are, one_more I.demand I.arcs, room, inv.flow_fits) }
