use Rattle.std.proofs.Common.{subst}
use Rattle.std.specs.Prelude.{IfSome}
use Rattle.network.specs.Instance.{numbered_flow}
use Rattle.tracked.specs.Touched.{NameChanges}
use Rattle.flow_solver.specs.TablesView.{TablesView}
use Rattle.network.specs.Rows.{return_arcs}
use Rattle.flow_solver.proofs.TablesViewLemmas.{named_before, since}
use Rattle.flow_solver.proofs.tables.Tables.touched_flow.Goals as goal

pub returns-clause-named : goal.returns-clause-named
returns-clause-named c =
    let t = c.self.inside in
    let places = c.places.result.now in
    subst (λ (d : TablesView). IfSome d.before (λ old. NameChanges (return_arcs old.instance.demand) places (numbered_flow old.instance.demand old.flow) (numbered_flow d.moment.instance.demand d.moment.flow))) c.self.view_is
    (since _ _ _ (λ old. NameChanges (return_arcs old.instance.demand) places (numbered_flow old.instance.demand old.flow) (numbered_flow t.graph.net.demand t.flow.entries))
    (λ told. named_before t.before.log.items t.graph.net places t.flow.kept t.flow.entries c.places.ensures.named))
