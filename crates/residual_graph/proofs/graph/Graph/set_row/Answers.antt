use Rattle.std.proofs.Common.{◌∙◌, ◌-◌, ap, length, subst, sym}
use Rattle.dimacs_text.specs.Lawful.{IsLawfulRow}
use Rattle.network.specs.Instance.{ArcFits, Instance, IsLawful, reduced}
use Rattle.residual_graph.specs.Graph.{GraphView}
use Rattle.residual_graph.proofs.GraphLemmas.{as_many, is_graph, lawful_row}
use Rattle.residual_graph.proofs.graph.Graph.set_row.Goals as goal
use Rattle.residual_graph.proofs.graph.Graph.set_row.Goals.{After-set_row}

lawful : (c : After-set_row) → IsLawful c.set_row.new.self
lawful c =
    let row = c.args.row in
    let limits = subst (λ (v : GraphView). IsLawfulRow v.net.nodes row) (sym c.self.view_is) c.requires.limits in
    let fits = subst (λ (v : GraphView). ArcFits v.net.demand row) (sym c.self.view_is) c.requires.fits in
    subst IsLawful (sym c.set_row.ensures) (lawful_row c.self.inside.net (c.args.k - 1) row c.self.invariant limits fits)

pub invariant_of-self : goal.invariant_of-self
invariant_of-self c = lawful (goal.at.invariant_of-self c).After-set_row

pub returns-clause-one_a_row : goal.returns-clause-one_a_row
returns-clause-one_a_row c =
    ap (λ (I : Instance). length (reduced I).arcs) c.set_row.ensures ∙ as_many c.self.inside.net (c.args.k - 1) c.args.row ∙ ap (λ (v : GraphView). length v.rows) c.self.view_is

pub returns-clause-graph : goal.returns-clause-graph
returns-clause-graph c = is_graph _ (lawful (goal.at.returns-clause-graph c).After-set_row)
