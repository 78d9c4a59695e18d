use Rattle.std.proofs.Common.{◌∙◌, ◌<◌, ◌≤◌, ◌-◌, ◌+◌, ℕ, ℤ, List, pos, length, slice_set, drop, ap, arith, refl, rules, subst, sym, w64}
use Rattle.std.specs.Prelude.{slice_index_or}
use Rattle.std.proofs.lemmas.Int.{to_z-of_z}
use Rattle.std.proofs.lemmas.List.{get_or_default}
use Rattle.flow_solver.specs.TablesView.{TablesView, flow_index}
use Rattle.residual_graph.specs.Residual.{row_at}
use Rattle.flow_solver.proofs.CarryLemmas.{IsPlace, balance_set, ends_in, place_is}
use Rattle.flow_solver.proofs.TablesViewLemmas.{fit_written}
use Rattle.tracked.proofs.TrackedLemmas.{IsWritten-same}
use Rattle.flow_solver.proofs.tables.Tables.swap_flow.Goals as goal
use Rattle.flow_solver.proofs.tables.Tables.swap_flow.Goals.{After-return_arcs}

abbrev place_in_rows : After-return_arcs → ℕ
place_in_rows c = c.return_arcs.result + (c.args.k - 1)

place_there : (c : After-return_arcs) → IsPlace c.self.inside.graph.net c.self.inside.graph.rows c.args.k (place_in_rows c)
place_there c =
    let I = c.self.inside.graph.net in
    let at = subst (λ (b : TablesView). (1 ≤ c.args.k) × (c.args.k ≤ length b.moment.instance.arcs)) (sym c.self.view_is) c.requires.there in
    place_is I c.self.inside.graph.rows c.args.k (place_in_rows c) c.self.invariant.graph.rows.rows_are at
    (omega (arith, c.return_arcs.ensures))

-- its ends are entries of the excess
ends_there : (c : After-return_arcs) → ((row_at c.self.inside.graph.rows (place_in_rows c)).tail < length c.self.inside.balance.excess) × ((row_at c.self.inside.graph.rows (place_in_rows c)).head < length c.self.inside.balance.excess)
ends_there c = ends_in c.self.inside.graph.net c.self.inside.graph.rows c.self.inside.balance c.self.invariant.graph.rows.lawful c.self.invariant.graph.rows.rows_are c.self.invariant.balance_is.sized (place_in_rows c) (place_there c).in_rows

pub carry_over-requires-clause-tail_in : goal.carry_over-requires-clause-tail_in
carry_over-requires-clause-tail_in c = rw c.rows.ensures (ends_there (goal.at.carry_over-requires-clause-tail_in c).After-return_arcs).0

pub carry_over-requires-clause-head_in : goal.carry_over-requires-clause-head_in
carry_over-requires-clause-head_in c = rw c.rows.ensures (ends_there (goal.at.carry_over-requires-clause-head_in c).After-return_arcs).1

pub invariant_of-self : goal.invariant_of-self
invariant_of-self c =
    let t = c.self.inside in
    let inv = c.self.invariant in
    let before = (goal.at.invariant_of-self c).After-return_arcs in
    let place = place_in_rows before in
    let there = (place_there before).in_rows in
    let entry = to_z-of_z w64 c.get.result (search rules) ∙ c.get.ensures ∙ get_or_default t.flow.entries place c.get.result (pos 0) (omega (arith, there, inv.flow_in)) in
    let carried = rw (c.rows.ensures, entry, to_z-of_z w64 c.args.value.now (search rules)) at c.carry_over.ensures in
    let balance = balance_set t.graph.net t.graph.rows t.flow c.exchange.new.self t.balance _ place c.args.value.now there inv.flow_in carried refl c.exchange.ensures.entries c.exchange.ensures.written.whole inv.balance_is in
    record {
      fit = fit_written t.graph t.graph t.flow c.exchange.new.self t.potentials.table t.potentials.table t.cut t.cut t.scratch t.scratch inv.fit refl refl inv.graph refl c.exchange.ensures.written (IsWritten-same t.potentials.table) inv.idle (IsWritten-same t.cut) inv.scratch_in;
      balance_is = balance;
      told = λ none. cc;
      held = rw c.exchange.ensures.written.whole inv.held;
      step = inv.step;
      log_fits = inv.log_fits;
      before_is = tt;
    }

pub returns-clause-moment : goal.returns-clause-moment
returns-clause-moment c =
    let t = c.self.inside in
    let index = (place_there (goal.at.returns-clause-moment c).After-return_arcs).index_is in
    ap (λ (x : List ℤ). record { instance = t.graph.net; flow = x; potentials = drop 1 t.potentials.table.entries; verdict = t.verdict; cut = drop 1 t.cut.entries })
    (c.exchange.ensures.entries ∙ ap (λ (n : ℕ). slice_set t.flow.entries n c.args.value.now) index)
    ∙ ap (λ (b : TablesView). record b.moment { flow = slice_set b.moment.flow (flow_index b.moment.instance.demand c.args.k) c.args.value.now }) c.self.view_is

pub returns-clause-value : goal.returns-clause-value
returns-clause-value c =
    let t = c.self.inside in
    let index = (place_there (goal.at.returns-clause-value c).After-return_arcs).index_is in
    c.exchange.ensures.value
    ∙ ap (λ (n : ℕ). slice_index_or t.flow.entries n c.args.value.now) index
    ∙ ap (λ (b : TablesView). slice_index_or b.moment.flow (flow_index b.moment.instance.demand c.args.k) c.args.value.now) c.self.view_is
