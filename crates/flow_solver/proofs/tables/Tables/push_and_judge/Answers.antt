use Rattle.std.proofs.Common.{◌≡◌, ◌∙◌, ◌+◌, drop, length, arith, refl, sym, subst}
use Rattle.std.proofs.lemmas.Int.{ints}
use Rattle.network.specs.Flow.{IsCertifiedFlow}
use Rattle.network.specs.Instance.{at_node, reduced}
use Rattle.network.proofs.Reduction.{reduced_ends}
use Rattle.flow_changes.specs.Push.{IsExcess}
use Rattle.flow_solver.specs.Balance.{IsBalanceOf}
use Rattle.flow_solver.specs.Answer.{IsJudged, reduced_worth}
use Rattle.augmentation.specs.Nodes.{held}
use Rattle.flow_solver.specs.TablesView.{TablesView}
use Rattle.flow_solver.proofs.TablesViewLemmas.{fit_written, sized_written}
use Rattle.residual_graph.proofs.Pseudoflows.{bounds_of}
use Rattle.flow_solver.proofs.FlowLaws.{optimal_of, potentials_of}
use Rattle.flow_solver.proofs.PushLaws.{pushes_of, left_is}
use Rattle.flow_solver.proofs.AnswerLemmas.{IsEnd, exact_of_certified, wrapped_small, end_certified, end_verdict, end_chosen, left_fits, lack_fits}
use Rattle.flow_solver.proofs.tables.Tables.push_and_judge.Goals as goal
use Rattle.flow_solver.proofs.tables.Tables.push_and_judge.Goals.{After-mark_cut, After-judge-self-inside}

pub push_and_raise-pushed-requires-clause-ready : goal.push_and_raise-pushed-requires-clause-ready
push_and_raise-pushed-requires-clause-ready c =
    let t = c.self.inside in
    let I = t.graph.net in
    let inv = c.self.invariant in
    let flow = subst (λ (b : TablesView). IsCertifiedFlow (reduced b.moment.instance) b.moment.flow (at_node b.moment.potentials)) (sym c.self.view_is) c.requires in
    record {
      state = record {
        graph = inv.potentials_in.entries_in;
        certified = rw inv.graph.rows.rows_are (optimal_of I t.flow.entries t.potentials.table.entries inv.graph.rows.lawful inv.potentials_in.entries_in inv.idle flow);
        excess_in = inv.balance_is.sized ∙ sym inv.potentials_in.entries_in;
        small = (exact_of_certified I t.graph.rows t.flow.entries t.balance.excess (at_node (drop 1 t.potentials.table.entries)) inv.graph.rows.lawful inv.graph.rows.rows_are flow inv.balance_is.excess).small;
      };
      in_range = potentials_of I.nodes t.potentials.table.entries inv.potentials_in.entries_in inv.idle flow.range;
    }

-- the flow is certified before
certified_in : (c : After-mark_cut) → IsCertifiedFlow (reduced c.self.inside.graph.net) c.self.inside.flow.entries (at_node (drop 1 c.self.inside.potentials.table.entries))
certified_in c = subst (λ (b : TablesView). IsCertifiedFlow (reduced b.moment.instance) b.moment.flow (at_node b.moment.potentials)) (sym c.self.view_is) c.requires

-- what lay in excess before
excess_before : (c : After-mark_cut) → IsExcess c.self.inside.graph.rows (held c.self.inside.graph.net.nodes (reduced c.self.inside.graph.net).supply) c.self.inside.flow.entries c.self.inside.balance.excess
excess_before c =
    (exact_of_certified c.self.inside.graph.net c.self.inside.graph.rows c.self.inside.flow.entries c.self.inside.balance.excess (at_node (drop 1 c.self.inside.potentials.table.entries)) c.self.invariant.graph.rows.lawful c.self.invariant.graph.rows.rows_are (certified_in c) c.self.invariant.balance_is.excess).excess

excess_in : (c : After-mark_cut) → length c.push_and_raise-pushed.new.excess ≡ c.self.inside.graph.net.nodes + 1
excess_in c = c.push_and_raise-pushed.ensures.ready.state.excess_in ∙ c.push_and_raise-pushed.ensures.ready.state.graph

-- what stands in the tables after the searches
end : (c : After-mark_cut) → IsEnd c.self.inside.graph.net c.push_and_raise-pushed.new.flow.entries c.push_and_raise-pushed.new.potentials.table.entries c.push_and_raise-pushed.new.excess c.mark_cut.new.cut.entries
end c =
    let supply = held c.self.inside.graph.net.nodes (reduced c.self.inside.graph.net).supply in
    let same = c.self.invariant.graph.rows.rows_are in
    record {
      lawful = c.self.invariant.graph.rows.lawful;
      potentials_in = c.push_and_raise-pushed.ensures.ready.in_range;
      excess_in = excess_in c;
      cut_in = c.mark_cut.ensures.written.same_length ∙ c.self.invariant.cut_in.entries_in;
      certified = rw same at c.push_and_raise-pushed.ensures.ready.state.certified;
      excess_is = rw same at (c.push_and_raise-pushed.ensures.pushed.excess supply (excess_before c));
      side = rw same at c.mark_cut.ensures.side;
      parted = rw same at c.push_and_raise-pushed.ensures.parted;
    }

pub judge-self-inside-requires-clause-bounds : goal.judge-self-inside-requires-clause-bounds
judge-self-inside-requires-clause-bounds c = rw c.rows.ensures (bounds_of c.push_and_raise-pushed.ensures.ready.state.certified.flow)

pub judge-self-inside-requires-clause-left_fits : goal.judge-self-inside-requires-clause-left_fits
judge-self-inside-requires-clause-left_fits c = left_fits _ _ _ _ _ (end (goal.at.judge-self-inside-requires-clause-left_fits c).After-mark_cut)

pub judge-self-inside-requires-clause-lack_fits : goal.judge-self-inside-requires-clause-lack_fits
judge-self-inside-requires-clause-lack_fits c = lack_fits _ _ _ _ _ (end (goal.at.judge-self-inside-requires-clause-lack_fits c).After-mark_cut)

judged : (c : After-judge-self-inside) → IsJudged (reduced_worth c.self.inside.graph.net.demand (reduced c.self.inside.graph.net).arcs c.push_and_raise-pushed.new.flow.entries) c.push_and_raise-pushed.new.excess c.judge-self-inside.result
judged c = rw c.self.invariant.graph.rows.rows_are at (rw c.rows.ensures at (rw c.network.ensures at c.judge-self-inside.ensures))

pub invariant_of-self : goal.invariant_of-self
invariant_of-self c =
    let t = c.self.inside in
    let inv = c.self.invariant in
    let call = c.push_and_raise-pushed in
    let s = (goal.at.invariant_of-self c).After-mark_cut in
    let supply = held t.graph.net.nodes (reduced t.graph.net).supply in
    let now = record t.balance { excess = c.tidy.new.self } in
    let balance : IsBalanceOf t.graph.net t.graph.rows call.new.flow now = record {
      sized = rw c.tidy.ensures (excess_in s);
      excess = rw c.tidy.ensures (wrapped_small t.graph.rows supply call.new.flow.entries call.new.excess (call.ensures.pushed.excess supply (excess_before s)) call.ensures.ready.state.small);
      cost = rw call.ensures.flow_written.whole inv.balance_is.cost;
    } in
    record {
      fit = fit_written t.graph t.graph t.flow call.new.flow t.potentials.table call.new.potentials.table t.cut c.mark_cut.new.cut t.scratch c.mark_cut.new.scratch
          inv.fit refl refl inv.graph refl call.ensures.flow_written call.ensures.potentials_written (call.ensures.ready.in_range.at_least 0, call.ensures.ready.in_range.at_most_0 0) c.mark_cut.ensures.written (rw c.mark_cut.ensures.scratch (call.ensures.scratch_in ∙ excess_in s));
      balance_is = balance;
      told = λ told. call.ensures.greatest;
      held = rw c.mark_cut.ensures.scratch call.ensures.held;
      step = rw c.mark_cut.ensures.scratch call.ensures.step;
      log_fits = inv.log_fits;
      before_is = tt;
    }

pub returns-clause-answered : goal.returns-clause-answered
returns-clause-answered c =
    let t = c.self.inside in
    let I = t.graph.net in
    let call = c.push_and_raise-pushed in
    let y = call.new.flow.entries in
    let p = call.new.potentials.table.entries in
    let e = call.new.excess in
    let set = c.mark_cut.new.cut.entries in
    let ended = end (goal.at.returns-clause-answered c).After-mark_cut in
    let told = judged (goal.at.returns-clause-answered c).After-judge-self-inside in
    record {
      sized = sized_written t.graph t.graph t.flow call.new.flow t.potentials.table call.new.potentials.table t.cut c.mark_cut.new.cut t.scratch c.judge-self-inside.result
          c.self.invariant.fit refl c.self.invariant.graph.rows refl call.ensures.flow_written call.ensures.potentials_written c.mark_cut.ensures.written;
      certified = end_certified I y p e set ended;
      verdict = end_verdict I y p e set ended c.judge-self-inside.result told;
      greatest = call.ensures.greatest;
      chosen = end_chosen I y p e set ended c.judge-self-inside.result told;
    }

pub returns-clause-pushes : goal.returns-clause-pushes
returns-clause-pushes c =
    let I = c.self.inside.graph.net in
    let same = c.self.invariant.graph.rows in
    let made = c.push_and_raise-pushed.ensures.pushed.pushes (held I.nodes (reduced I).supply) (excess_before (goal.at.returns-clause-pushes c).After-mark_cut) in
    rw (← c.self.view_is) (pushes_of I.nodes (reduced I).arcs (reduced I).supply (reduced_ends I same.lawful) c.push_and_raise-pushed.result.count c.self.inside.flow.entries c.push_and_raise-pushed.new.flow.entries (rw same.rows_are at made))

pub returns-clause-count : goal.returns-clause-count
returns-clause-count c =
    let t = c.self.inside in
    let same = c.self.invariant.graph.rows in
    let before = rw same.rows_are at (excess_before (goal.at.returns-clause-count c).After-mark_cut) in
    let all = left_is (reduced t.graph.net) t.flow.entries t.balance.excess (reduced_ends t.graph.net same.lawful) before (omega (arith, c.self.invariant.balance_is.sized)) in
    rw (← c.self.view_is) (omega (arith, ints, all, c.push_and_raise-pushed.ensures.pushed.count))
