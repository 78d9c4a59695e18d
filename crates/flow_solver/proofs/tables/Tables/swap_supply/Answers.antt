use Rattle.std.proofs.Common.{◌∙◌, ◌≡◌, ◌-◌, ℤ, ap, drop, length, refl, rules, slice_index_or, subst, sym, w64}
use Rattle.std.proofs.lemmas.Int.{to_z-of_z}
use Rattle.dimacs_lines.specs.Fields.{IsNode}
use Rattle.dimacs_text.specs.declared.problem.Kind.TheVariants.{Min}
use Rattle.network.specs.Instance.{Instance, at_node, kind_of, reduced}
use Rattle.flow_solver.specs.Balance.{IsBalanceOf}
use Rattle.flow_solver.specs.TablesView.{TablesView, supplies_in}
use Rattle.augmentation.specs.Nodes.{held}
use Rattle.flow_solver.proofs.CarryLemmas.{balance_supplied}
use Rattle.flow_solver.proofs.ChangeLemmas.{supplied, supply_entry}
use Rattle.flow_solver.proofs.TablesViewLemmas.{fit_written}
use Rattle.augmentation.proofs.NodeLemmas.{held_node}
use Rattle.tracked.proofs.TrackedLemmas.{IsWritten-same}
use Rattle.flow_solver.proofs.StandingLemmas.{greatest_supplied}
use Rattle.flow_solver.proofs.tables.Tables.swap_supply.Goals as goal

pub invariant_of-self : goal.invariant_of-self
invariant_of-self c =
    let t = c.self.inside in
    let I = t.graph.net in
    let J = c.set_supply.new.self.net in
    let inv = c.self.invariant in
    let kind = subst (λ (b : TablesView). kind_of b.moment.instance.demand ≡ Min) (sym c.self.view_is) c.requires.kind in
    let node = subst (λ (b : TablesView). IsNode b.moment.instance.nodes c.args.id) (sym c.self.view_is) c.requires.node in
    let before = to_z-of_z w64 c.supply_at-before.result (search rules) ∙ c.supply_at-before.ensures ∙ ap (λ (K : Instance). held K.nodes (reduced K).supply c.args.id) c.network.ensures ∙ held_node I.nodes (reduced I).supply c.args.id node in
    let after = to_z-of_z w64 c.args.value.now (search rules) in
    let net : J ≡ supplied I c.args.id c.args.value.now = c.set_supply.ensures.net ∙ ap (λ (z : ℤ). supplied I c.args.id z) after in
    let raised = rw (before, after) at c.add_difference.ensures in
    let now = record t.balance { excess = c.add_difference.new.excess } in
    let balance : IsBalanceOf J c.set_supply.new.self.rows t.flow now = rw (c.set_supply.ensures.rows, net) (balance_supplied I t.graph.rows t.flow t.balance now c.args.id c.args.value.now inv.graph.rows.lawful kind node raised refl inv.balance_is) in
    record {
      fit = fit_written t.graph c.set_supply.new.self t.flow t.flow t.potentials.table t.potentials.table t.cut t.cut t.scratch t.scratch inv.fit (ap (λ (K : Instance). K.nodes) net) (ap (λ (K : Instance). K.room) net) c.set_supply.ensures.graph
          (ap length c.set_supply.ensures.rows) (IsWritten-same t.flow) (IsWritten-same t.potentials.table) inv.idle (IsWritten-same t.cut) inv.scratch_in;
      balance_is = balance;
      told = λ stood. rw net (greatest_supplied I c.args.id c.args.value.now (at_node (drop 1 t.potentials.table.entries)) t.flow.entries (inv.told stood));
      held = rw c.set_supply.ensures.rows inv.held;
      step = inv.step;
      log_fits = inv.log_fits;
      before_is = tt;
    }

pub returns-clause-value : goal.returns-clause-value
returns-clause-value c =
    let I = c.self.inside.graph.net in
    let id = c.args.id in
    let value = c.args.value.now in
    let kind = subst (λ (b : TablesView). kind_of b.moment.instance.demand ≡ Min) (sym c.self.view_is) c.requires.kind in
    let node = subst (λ (b : TablesView). IsNode b.moment.instance.nodes id) (sym c.self.view_is) c.requires.node in
    to_z-of_z w64 c.supply_at-before.result (search rules) ∙ c.supply_at-before.ensures ∙ ap (λ (K : Instance). held K.nodes (reduced K).supply id) c.network.ensures ∙ held_node I.nodes (reduced I).supply id node
    ∙ supply_entry I.nodes I.demand id value kind c.self.invariant.graph.rows.lawful.demand node
    ∙ ap (λ (b : TablesView). slice_index_or (supplies_in b.moment.instance.demand) (id - 1) value) c.self.view_is
