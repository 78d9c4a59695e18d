use Rattle.std.proofs.Common.{◌≡◌, ◌∙◌, ◌+◌, ◌-◌, ◌<◌, ◌≤◌, ◌^◌, ℤ, List, ap, arith, length, refl, rules, slice_index_or, subst, sym, w64, to_z, of_z}
use Rattle.std.specs.Int.{w128}
use Rattle.std.proofs.lemmas.Int.{to_z-of_z}
use Rattle.dimacs_text.specs.declared.problem.ArcRow.{ArcRow}
use Rattle.network.specs.Instance.{Instance}
use Rattle.flow_solver.specs.TablesView.{TablesView}
use Rattle.residual_graph.specs.Residual.{row_at, number_at}
use Rattle.augmentation.proofs.NearLemmas.{step_kept}
use Rattle.flow_solver.proofs.CarryLemmas.{balance_swapped, place_is, rows_swapped}
use Rattle.flow_solver.proofs.HeldTables.{held_swapped}
use Rattle.residual_graph.proofs.WalkLemmas.{few_rows}
use Rattle.flow_solver.proofs.TablesViewLemmas.{fit_written}
use Rattle.tracked.proofs.TrackedLemmas.{IsWritten-same}
use Rattle.flow_solver.proofs.tables.Tables.swap_row.Goals as goal

pub invariant_of-self : goal.invariant_of-self
invariant_of-self c =
    let t = c.self.inside in
    let I = t.graph.net in
    let J = c.set_row.new.self.net in
    let inv = c.self.invariant in
    let net = c.set_row.ensures.net in
    let row = c.args.row.now in
    let there = subst (λ (b : TablesView). (1 ≤ c.args.k) × (c.args.k ≤ length b.moment.instance.arcs)) (sym c.self.view_is) (c.requires.ends.0, c.requires.ends.1) in
    let tail = subst (λ (b : TablesView). row.tail ≡ (slice_index_or b.moment.instance.arcs (c.args.k - 1) row).tail) (sym c.self.view_is) c.requires.ends.2 in
    let head = subst (λ (b : TablesView). row.head ≡ (slice_index_or b.moment.instance.arcs (c.args.k - 1) row).head) (sym c.self.view_is) c.requires.ends.3 in
    let place = c.return_arcs.result + (c.args.k - 1) in
    let at = place_is I t.graph.rows c.args.k place inv.graph.rows.rows_are there
    (omega (arith, c.return_arcs.ensures)) in
    let before : row_at c.rows.result.now place ≡ row_at t.graph.rows place = ap (λ (r : List ArcRow). row_at r place) c.rows.ensures in
    let price = to_z-of_z w64 (row_at c.rows.result.now place).cost (search rules) ∙ ap (λ a. a.cost) before in
    let factor = to_z-of_z w64 (number_at c.whole.result.now place) (search rules) ∙ ap (λ (x : List ℤ). number_at x place) c.whole.ensures.value in
    let cost = to_z-of_z w128 c.reprice-self-inside.result (record { sfits = c.reprice-self-inside.type_inv })
    ∙ (rw (to_z-of_z w128 t.balance.cost (search rules), to_z-of_z w64 row.cost (search rules), price, factor) at c.reprice-self-inside.ensures) in
    let rows_are = rows_swapped I J t.graph.rows c.set_row.new.self.rows c.args.k place row there.0 at inv.graph.rows.rows_are c.set_row.ensures.graph.rows.rows_are net in
    let now = record t.balance { cost = to_z w128 (of_z w128 c.reprice-self-inside.result) } in
    let balance = balance_swapped I J t.graph.rows c.set_row.new.self.rows t.flow t.balance now c.args.k place row there.0 at inv.graph.rows.rows_are c.set_row.ensures.graph.rows.rows_are net tail head
    inv.flow_in inv.flow_whole refl cost inv.balance_is in
    record {
      fit = fit_written t.graph c.set_row.new.self t.flow t.flow t.potentials.table t.potentials.table t.cut t.cut t.scratch _ inv.fit (ap (λ (K : Instance). K.nodes) net) (ap (λ (K : Instance). K.room) net) c.set_row.ensures.graph c.set_row.ensures.one_a_row
          (IsWritten-same t.flow) (IsWritten-same t.potentials.table) inv.idle (IsWritten-same t.cut) (ap length c.note_all.ensures.held.labels ∙ inv.scratch_in);
      balance_is = balance;
      told = λ none. cc;
      held = held_swapped t.graph.rows t.flow.whole t.scratch.tree c.note_all.new.self.tree c.note_all.ensures.held inv.held c.set_row.new.self.rows place row rows_are c.note_all.ensures.noted;
      step = step_kept t.scratch.tree c.note_all.new.self.tree c.note_all.ensures.held t.potentials.table.entries inv.step;
      log_fits = inv.log_fits;
      before_is = tt;
    }

pub returns-clause-row : goal.returns-clause-row
returns-clause-row c =
    let t = c.self.inside in
    let k = c.args.k in
    let row = c.args.row.now in
    let place = c.return_arcs.result + (k - 1) in
    let there = subst (λ (b : TablesView). (1 ≤ k) × (k ≤ length b.moment.instance.arcs)) (sym c.self.view_is) (c.requires.ends.0, c.requires.ends.1) in
    let at = place_is t.graph.net t.graph.rows k place c.self.invariant.graph.rows.rows_are there (omega (arith, c.return_arcs.ensures)) in
    ap (λ (r : List ArcRow). row_at r place) c.rows.ensures ∙ at.row_is row
    ∙ ap (λ (b : TablesView). slice_index_or b.moment.instance.arcs (k - 1) row) c.self.view_is

pub overflow_cast-place-2 : goal.overflow_cast-place-2
overflow_cast-place-2 c =
    let t = c.self.inside in
    let k = c.args.k in
    let rows = c.self.invariant.graph.rows in
    let place = c.return_arcs.result + (k - 1) in
    let there = subst (λ (b : TablesView). (1 ≤ k) × (k ≤ length b.moment.instance.arcs)) (sym c.self.view_is) (c.requires.ends.0, c.requires.ends.1) in
    let at = place_is t.graph.net t.graph.rows k place rows.rows_are there (omega (arith, c.return_arcs.ensures)) in
    let bound : place < 2 ^ 32 = omega (arith, at.in_rows, few_rows t.graph rows) in
    search (rules, bound)
