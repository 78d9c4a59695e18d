use Rattle.std.proofs.Common.{take, ◌≡◌, ◌∙◌, ◌-◌, ◌<◌, ◌∷◌, [], ℕ, ℤ, List, pos, drop, ap, arith, length, rules, subst, sym, w64, to_z, of_z}
use Rattle.std.specs.Int.{w128}
use Rattle.std.proofs.lemmas.Int.{to_z-of_z}
use Rattle.std.proofs.lemmas.List.{get_or_default, length-append, length-take-le}
use Rattle.dimacs_text.specs.declared.problem.ArcRow.{ArcRow}
use Rattle.network.specs.Instance.{Instance}
use Rattle.flow_solver.specs.TablesView.{TablesView}
use Rattle.residual_graph.specs.Residual.{row_at, number_at}
use Rattle.augmentation.proofs.NearLemmas.{step_kept}
use Rattle.flow_solver.proofs.CarryLemmas.{arcs_in, balance_dropped, ends_in}
use Rattle.flow_solver.proofs.HeldTables.{held_dropped}
use Rattle.tracked.proofs.TrackedLemmas.{IsWritten-same}
use Rattle.flow_solver.proofs.TablesViewLemmas.{fit_again}
use Rattle.flow_solver.proofs.tables.Tables.drop_last.Goals as goal
use Rattle.flow_solver.proofs.tables.Tables.drop_last.Goals.{After-rows}

last_place : (c : After-rows) → length c.rows.result.now - 1 < length c.self.inside.graph.rows
last_place c =
    let many = ap (λ (r : List ArcRow). length r) c.rows.ensures in
    let some = subst (λ (b : TablesView). 0 < length b.moment.instance.arcs) (sym c.self.view_is) c.requires in
    omega (arith, many, some, ap (λ (r : List ArcRow). length r) c.self.invariant.graph.rows.rows_are, arcs_in c.self.inside.graph.net.demand c.self.inside.graph.net.arcs)

-- its ends are entries of the excess
ends_there : (c : After-rows) → ((row_at c.self.inside.graph.rows (length c.rows.result.now - 1)).tail < length c.self.inside.balance.excess) × ((row_at c.self.inside.graph.rows (length c.rows.result.now - 1)).head < length c.self.inside.balance.excess)
ends_there c = ends_in c.self.inside.graph.net c.self.inside.graph.rows c.self.inside.balance c.self.invariant.graph.rows.lawful c.self.invariant.graph.rows.rows_are c.self.invariant.balance_is.sized (length c.rows.result.now - 1) (last_place c)

pub carry_over-requires-clause-tail_in : goal.carry_over-requires-clause-tail_in
carry_over-requires-clause-tail_in c = rw c.rows-2.ensures (ends_there (goal.at.carry_over-requires-clause-tail_in c).After-rows).0

pub carry_over-requires-clause-head_in : goal.carry_over-requires-clause-head_in
carry_over-requires-clause-head_in c = rw c.rows-2.ensures (ends_there (goal.at.carry_over-requires-clause-head_in c).After-rows).1

pub invariant_of-self : goal.invariant_of-self
invariant_of-self c =
    let t = c.self.inside in
    let inv = c.self.invariant in
    let last = length c.rows.result.now - 1 in
    let there = last_place (goal.at.invariant_of-self c).After-rows in
    let many = ap (λ (r : List ArcRow). length r) c.rows.ensures in
    let row : row_at c.rows-2.result.now last ≡ row_at t.graph.rows last = ap (λ (r : List ArcRow). row_at r last) c.rows-2.ensures in
    let entry = to_z-of_z w64 c.get.result (search rules) ∙ c.get.ensures ∙ get_or_default t.flow.entries last c.get.result (pos 0) (omega (arith, there, inv.flow_in)) in
    let was = to_z-of_z w64 (number_at c.whole.result.now last) (search rules) ∙ ap (λ (x : List ℤ). number_at x last) c.whole.ensures.value in
    let price = to_z-of_z w64 (row_at c.rows-2.result.now last).cost (search rules) ∙ ap (λ a. a.cost) row in
    let cost = to_z-of_z w128 c.reprice-self-inside.result (record { sfits = c.reprice-self-inside.type_inv })
    ∙ (rw (to_z-of_z w128 t.balance.cost (search rules), was, price) at c.reprice-self-inside.ensures) in
    let now = record t.balance { excess = c.carry_over.new.excess; cost = to_z w128 (of_z w128 c.reprice-self-inside.result) } in
    let balance = balance_dropped t.graph.net c.pop_arc-row.new.self.net t.graph.rows c.pop_arc-row.new.self.rows t.flow c.pop-flow.new.self t.balance now c.pop_arc-row.result c.pop-flow.result last
    c.pop_arc-row.ensures.net c.pop_arc-row.ensures.rows inv.flow_in inv.flow_whole c.pop-flow.ensures.entries c.pop-flow.ensures.whole
    (ap (λ (n : ℕ). n - 1) many) (rw (row, entry) at c.carry_over.ensures) cost inv.balance_is in
    let one_less = ap (λ (r : List ArcRow). length r) c.pop_arc-row.ensures.rows ∙ length-append c.pop_arc-row.new.self.rows (c.pop_arc-row.result ∷ []) in
    let entries_less = ap (λ (xs : List ℤ). length xs) c.pop-flow.ensures.entries ∙ length-append c.pop-flow.new.self.entries (c.pop-flow.result ∷ []) in
    record {
      fit = fit_again t.graph c.pop_arc-row.new.self t.flow c.pop-flow.new.self t.potentials.table t.potentials.table t.cut t.cut t.scratch _ inv.fit
          (sym (ap (λ (K : Instance). K.nodes) c.pop_arc-row.ensures.net)) (sym (ap (λ (K : Instance). K.room) c.pop_arc-row.ensures.net)) c.pop_arc-row.ensures.graph
          (omega (arith, entries_less, inv.flow_in, one_less))
          (omega (arith, ap (λ (xs : List ℤ). length xs) c.pop-flow.ensures.whole, length-take-le (length c.pop-flow.new.self.entries) t.flow.whole (omega (arith, entries_less, inv.flow_in, inv.flow_whole)), entries_less, inv.flow_in, one_less))
          c.pop-flow.ensures.room (IsWritten-same t.potentials.table) inv.idle (IsWritten-same t.cut) (ap length c.note_all.ensures.held.labels ∙ inv.scratch_in);
      balance_is = balance;
      told = λ none. cc;
      held = held_dropped t.graph.rows t.flow.whole t.scratch.tree c.note_all.new.self.tree c.note_all.ensures.held inv.held c.pop_arc-row.new.self.rows c.pop-flow.new.self.whole last c.pop_arc-row.result c.pop_arc-row.ensures.rows
          (c.pop-flow.ensures.whole ∙ ap (λ (n : ℕ). take n t.flow.whole) (omega (arith, entries_less, inv.flow_in, one_less))) (omega (arith, many, one_less)) c.note_all.ensures.noted;
      step = step_kept t.scratch.tree c.note_all.new.self.tree c.note_all.ensures.held t.potentials.table.entries inv.step;
      log_fits = inv.log_fits;
      before_is = tt;
    }

pub returns-clause-kept : goal.returns-clause-kept
returns-clause-kept c asked =
    let t = c.self.inside in
    let inv = c.self.invariant in
    let view = ap (λ (b : TablesView). length b.kept.flow) c.self.view_is in
    let one_less = ap (λ (r : List ArcRow). length r) c.pop_arc-row.ensures.rows ∙ length-append c.pop_arc-row.new.self.rows (c.pop_arc-row.result ∷ []) in
    let less : length t.flow.kept < length t.flow.entries = omega (arith, asked, view, ap (λ (r : List ArcRow). length r) c.pop_arc-row.ensures.graph.rows.rows_are, one_less, inv.flow_in) in
    ap (λ (x : List ℤ). record { flow = x; potentials = drop 1 t.potentials.table.kept; cut = drop 1 t.cut.kept; log = t.before.log.items }) (c.pop-flow.ensures.kept less)
    ∙ ap (λ (b : TablesView). b.kept) c.self.view_is

pub returns-clause-flow : goal.returns-clause-flow
returns-clause-flow c = search rules
