use Rattle.std.proofs.Common.{◌≡◌, None, Some, subst}
use Rattle.std.specs.Prelude.{IfSome}
use Rattle.dimacs_lines.specs.Fields.{IsNode}
use Rattle.network.specs.Instance.{reduced_supply}
use Rattle.flow_solver.specs.TablesView.{TablesView}
use Rattle.flow_solver.proofs.LogLemmas.{nodes_before}
use Rattle.flow_solver.proofs.TablesViewLemmas.{since}
use Rattle.flow_solver.proofs.tables.Tables.old_supply.Goals as goal

pub returns-clause-node : goal.returns-clause-node
returns-clause-node c =
    let t = c.self.inside in
    subst (λ (d : TablesView). IfSome d.before (λ old. IsNode old.instance.nodes c.args.id → c.supply_before.result ≡ Some (reduced_supply old.instance.demand c.args.id))) c.self.view_is
    (since _ _ _ (λ old. IsNode old.instance.nodes c.args.id → c.supply_before.result ≡ Some (reduced_supply old.instance.demand c.args.id))
    (λ told node. rw (c.network.ensures, c.deref.ensures.value) at (c.supply_before.ensures.node (rw c.network.ensures (rw (nodes_before t.before.log.items t.graph.net) at node)))))

pub returns-clause-no_node : goal.returns-clause-no_node
returns-clause-no_node c =
    let t = c.self.inside in
    subst (λ (d : TablesView). IfSome d.before (λ old. (IsNode old.instance.nodes c.args.id → ⊥) → c.supply_before.result ≡ None)) c.self.view_is
    (since _ _ _ (λ old. (IsNode old.instance.nodes c.args.id → ⊥) → c.supply_before.result ≡ None)
    (λ told none. c.supply_before.ensures.no_node (λ node. none (rw (nodes_before t.before.log.items t.graph.net) (rw c.network.ensures at node)))))
