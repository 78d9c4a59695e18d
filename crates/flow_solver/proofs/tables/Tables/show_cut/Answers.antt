use Rattle.std.proofs.Common.{◌∙◌, ℕ, ◌<◌, ℤ, ◌≤ℤ◌, List, drop, length, pos, refl, rules, sym, subst}
use Rattle.std.specs.Int.{w64}
use Rattle.std.proofs.lemmas.Int.{to_z_pos}
use Rattle.network.specs.Flow.{IsCertifiedFlow}
use Rattle.network.specs.Instance.{at_node, reduced}
use Rattle.augmentation.specs.Nodes.{held}
use Rattle.augmentation.specs.Pseudoflow.{IsReady}
use Rattle.flow_changes.specs.Push.{IsExcess}
use Rattle.flow_solver.specs.declared.verdict.Verdict.TheVariants.{Infeasible}
use Rattle.flow_solver.specs.Answer.{IsAnswered}
use Rattle.flow_solver.specs.TablesView.{TablesView}
use Rattle.flow_solver.proofs.AnswerLemmas.{exact_of_certified, shown_chosen, shown_fits, shown_verdict}
use Rattle.flow_solver.proofs.FlowLaws.{greatest_at_0, optimal_of, potentials_of}
use Rattle.flow_solver.proofs.TablesViewLemmas.{sized_written}
use Rattle.residual_graph.specs.Residual.{number_at}
use Rattle.tracked.specs.Tracked.{IsWritten}
use Rattle.flow_solver.proofs.tables.Tables.show_cut.Goals as goal
use Rattle.flow_solver.proofs.tables.Tables.show_cut.Goals.{In-Some}

pub show_cut-shown-requires-clause-ready : goal.show_cut-shown-requires-clause-ready
show_cut-shown-requires-clause-ready c =
    let t = c.self.inside in
    let I = t.graph.net in
    let inv = c.self.invariant in
    let flow = subst (λ (b : TablesView). IsCertifiedFlow (reduced b.moment.instance) b.moment.flow (at_node b.moment.potentials)) (sym c.self.view_is) c.requires in
    let ready : IsReady t.graph t.flow.entries t.potentials.table.entries t.balance.excess = record {
      state = record {
        graph = inv.potentials_in.entries_in;
        certified = rw inv.graph.rows.rows_are (optimal_of I t.flow.entries t.potentials.table.entries inv.graph.rows.lawful inv.potentials_in.entries_in inv.idle flow);
        excess_in = inv.balance_is.sized ∙ sym inv.potentials_in.entries_in;
        small = (exact_of_certified I t.graph.rows t.flow.entries t.balance.excess (at_node (drop 1 t.potentials.table.entries)) inv.graph.rows.lawful inv.graph.rows.rows_are flow inv.balance_is.excess).small;
      };
      in_range = potentials_of I.nodes t.potentials.table.entries inv.potentials_in.entries_in inv.idle flow.range;
    } in
    subst (λ (p : List ℤ). IsReady t.graph t.flow.entries p t.balance.excess) (sym c.entries-potentials.ensures) ready

-- the flow is certified before
certified_in : (c : In-Some) → IsCertifiedFlow (reduced c.self.inside.graph.net) c.self.inside.flow.entries (at_node (drop 1 c.self.inside.potentials.table.entries))
certified_in c = subst (λ (b : TablesView). IsCertifiedFlow (reduced b.moment.instance) b.moment.flow (at_node b.moment.potentials)) (sym c.self.view_is) c.requires

-- what lay in excess before
excess_in : (c : In-Some) → IsExcess (reduced c.self.inside.graph.net).arcs (held c.self.inside.graph.net.nodes (reduced c.self.inside.graph.net).supply) c.self.inside.flow.entries c.self.inside.balance.excess
excess_in c =
    let t = c.self.inside in
    let rows = c.self.invariant.graph.rows in
    rw rows.rows_are at (exact_of_certified t.graph.net t.graph.rows t.flow.entries t.balance.excess (at_node (drop 1 t.potentials.table.entries)) rows.lawful rows.rows_are (certified_in c) c.self.invariant.balance_is.excess).excess

fits : (c : In-Some) → c.in-Some.shortage < 9223372036854775808
fits c =
    let t = c.self.inside in
    let rows = c.self.invariant.graph.rows in
    shown_fits t.graph.net t.flow.entries t.balance.excess c.in-Some.shortage c.show_cut-shown.new.cut.entries rows.lawful c.self.invariant.balance_is.sized (excess_in c) (rw rows.rows_are at c.in-Some.ensures.shown)

pub overflow_cast-self : goal.overflow_cast-self
overflow_cast-self c = (let bound = fits (goal.at.overflow_cast-self c).In-Some in search (rules, bound))

pub returns-in-Some-clause-answered : goal.returns-in-Some-clause-answered
returns-in-Some-clause-answered c = λ _.
    (let t = c.self.inside in
    let I = t.graph.net in
    let inv = c.self.invariant in
    let s = (goal.at.returns-in-Some-clause-answered c).In-Some in
    let x = t.flow.entries in
    let y = c.show_cut-shown.new.flow.entries in
    let e = t.balance.excess in
    let p = t.potentials.table.entries in
    let d = c.in-Some.shortage in
    let set = c.show_cut-shown.new.cut.entries in
    let shown = rw inv.graph.rows.rows_are at c.in-Some.ensures.shown in
    let none_below = c.are_none_below_0.ensures c.if-not-are_none_below_0.false in
    let same_table : IsWritten t.potentials.table t.potentials.table = record { kept = refl; whole = refl; same_length = refl; same_room = refl } in
    let same_flow : IsWritten t.flow t.flow = record { kept = refl; whole = refl; same_length = refl; same_room = refl } in
    let answered : IsAnswered (record { instance = I; flow = x; potentials = drop 1 p; verdict = Infeasible (pos d); cut = drop 1 set }) = record {
      sized = sized_written t.graph t.graph t.flow t.flow t.potentials.table t.potentials.table t.cut c.show_cut-shown.new.cut t.scratch (Infeasible (pos d))
          inv.fit refl inv.graph.rows refl same_flow same_table c.in-Some.ensures.cut_written;
      certified = certified_in s;
      verdict = shown_verdict I x e d set inv.graph.rows.lawful inv.balance_is.sized (excess_in s) shown;
      greatest = greatest_at_0 I x p inv.potentials_in.entries_in (subst (λ (q : List ℤ). (v : ℕ) → v < length q → pos 0 ≤ℤ number_at q v) c.entries-potentials.ensures none_below);
      chosen = shown_chosen I x e d set inv.graph.rows.lawful inv.balance_is.sized (excess_in s) shown;
    } in
    let led = subst (λ (z : List ℤ). IsAnswered (record { instance = I; flow = z; potentials = drop 1 p; verdict = Infeasible (pos d); cut = drop 1 set })) (sym c.in-Some.ensures.same_flow) answered in
    subst (λ (v : ℤ). IsAnswered (record { instance = I; flow = y; potentials = drop 1 p; verdict = Infeasible v; cut = drop 1 set })) (sym (to_z_pos w64 d (fits s))) led)
