use Rattle.std.proofs.Common.{◌≤◌, length, subst, sym}
use Rattle.flow_solver.specs.TablesView.{TablesView}
use Rattle.flow_solver.proofs.StandingLemmas.{arc_lawful, arc_placed, arc_there}
use Rattle.flow_solver.proofs.tables.Tables.row_of.Goals as goal

pub arc_of-requires-clause-there : goal.arc_of-requires-clause-there
arc_of-requires-clause-there c =
    let there = arc_there c.self.inside.graph.net.arcs c.args.k (subst (λ (b : TablesView). (1 ≤ c.args.k) × (c.args.k ≤ length b.moment.instance.arcs)) (sym c.self.view_is) c.requires) in
    (there.0, rw (c.network.ensures, c.from.ensures) there.1)

pub returns : goal.returns
returns c =
    let I = c.self.inside.graph.net in
    let at = subst (λ (b : TablesView). (1 ≤ c.args.k) × (c.args.k ≤ length b.moment.instance.arcs)) (sym c.self.view_is) c.requires in
    let there = rw (c.network.ensures, c.from.ensures) at c.arc_of.ensures in
    record {
      row = rw (← c.self.view_is) (sym (arc_placed I c.args.k c.arc_of.result at there));
      lawful = rw (← c.self.view_is) (arc_lawful I c.args.k c.arc_of.result at there c.self.invariant.graph.rows.lawful);
    }
