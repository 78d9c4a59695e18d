use Rattle.std.proofs.Common.{◌∙◌, ap, sym, subst}
use Rattle.network.specs.Flow.{IsCertifiedFlow}
use Rattle.network.specs.Instance.{at_node, reduced}
use Rattle.flow_solver.specs.Moment.{Moment}
use Rattle.flow_solver.specs.TablesView.{TablesView}
use Rattle.residual_graph.proofs.Pseudoflows.{flow_of_instance}
use Rattle.flow_solver.proofs.tables.Tables.prepare.Goals as goal

pub prepare-requires-clause-flow : goal.prepare-requires-clause-flow
prepare-requires-clause-flow c =
    let t = c.self.inside in
    let I = t.graph.net in
    let inv = c.self.invariant in
    let same = ap (λ (b : TablesView). b.moment) c.self.view_is ∙ c.snapshot.ensures.moment in
    let flow = subst (λ (m : Moment). IsCertifiedFlow (reduced m.instance) m.flow (at_node m.potentials)) (sym same) c.requires in
    rw (inv.graph.rows.rows_are, c.entries.ensures, inv.potentials_in.entries_in) (flow_of_instance I t.flow.entries inv.graph.rows.lawful flow.bounds)
